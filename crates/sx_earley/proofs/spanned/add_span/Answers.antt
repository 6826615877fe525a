use Rattle.std.proofs.Common.{tests, rules}
use Rattle.sx_earley.proofs.spanned.add_span.Goals as goal

pub returns-in_ok-push : goal.returns-in_ok-push
returns-in_ok-push c = search (tests, rules)

pub returns-else-ends_at : goal.returns-else-ends_at
returns-else-ends_at c = search (tests, rules)
