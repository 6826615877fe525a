use Rattle.sx_outside.specs.Views.{clean_files_of}
use Rattle.sx_compiling.proofs.KeptReads.{none_kept}
use Rattle.sx_compiling.proofs.unit_making.make_unit.Goals as goal

pub make_unit_of_several-unit-requires-clause-kept : goal.make_unit_of_several-unit-requires-clause-kept
make_unit_of_several-unit-requires-clause-kept g c = λ files told.
    none_kept (clean_files_of c.new-kept.result) files c.new-kept.ensures
