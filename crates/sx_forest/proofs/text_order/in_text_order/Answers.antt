use Rattle.std.proofs.Common.{tests, rules}
use Rattle.sx_forest.proofs.text_order.in_text_order.Goals as goal

pub returns-then-branch-clause-order : goal.returns-then-branch-clause-order
returns-then-branch-clause-order c = search (tests, rules)
