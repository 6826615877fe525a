use Rattle.sx_plain.specs.Views.{table_of}
use Rattle.sx_arena.specs.Arena.{trees}
use Rattle.tests_terms.proofs.images_by_number.lower_in.Goals as goal

pub lower-lowered-requires-clause-known : goal.lower-lowered-requires-clause-known
lower-lowered-requires-clause-known c = c.new-images.ensures (table_of c.args.table.now) (trees c.enter-2.new.arena)
