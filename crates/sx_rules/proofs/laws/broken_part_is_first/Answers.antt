use Rattle.sx_rules.proofs.FirstBroken.{broken_part_first}
use Rattle.sx_rules.proofs.laws.broken_part_is_first.Goals as goal

pub returns : goal.returns
returns c = broken_part_first
