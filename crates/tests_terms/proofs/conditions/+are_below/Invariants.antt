use Rattle.std.proofs.Common.{drop}
use Rattle.sx_term.proofs.Kids.{trees}
use Rattle.tests_terms.proofs.FitLaws.{AllBelow}
use Rattle.tests_terms.proofs.conditions.+are_below.Given as goal

abbrev pub invariant-loop-kid : goal.invariant-loop-kid
invariant-loop-kid l = AllBelow l.arity (trees (drop l.kid-index l.kid-items)) → AllBelow l.arity (trees l.kid-items)
