use Rattle.std.proofs.Common.{tests, rules}
use Rattle.sx_earley.proofs.spanned.span_of.Goals as goal

pub returns-in-Labelled : goal.returns-in-Labelled
returns-in-Labelled c = search (tests, rules)

pub returns-in-Bracketed : goal.returns-in-Bracketed
returns-in-Bracketed c = search (tests, rules)
