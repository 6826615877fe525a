use Rattle.sx_rewrite.proofs.accept_laws.flat_forms_are_sorted.Goals as goal
use Rattle.sx_rewrite.proofs.FlatSorted.{flat_forms_are_sorted}

pub returns : goal.returns
returns c = flat_forms_are_sorted
