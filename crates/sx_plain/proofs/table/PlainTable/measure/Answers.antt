use Rattle.sx_plain.proofs.PartLaws.{many-parts}
use Rattle.sx_plain.proofs.table.PlainTable.measure.Goals as goal

pub measure_of_body-requires-clause-many : goal.measure_of_body-requires-clause-many
measure_of_body-requires-clause-many c = many-parts _ _ _ c.requires.many c.in-Some.ensures
