use Rattle.std.proofs.Common.{rules}
use Rattle.sx_rules.proofs.discipline.broken.Goals as goal

pub returns-then-are_settled : goal.returns-then-are_settled
returns-then-are_settled c = search rules
