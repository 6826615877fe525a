use Rattle.std.proofs.Common.{◌++◌, length, arith}
use Rattle.sx_term.specs.Spaced.{spaced}
use Rattle.sx_term.proofs.SpacedLaws.{spaced_cut, spaced_outcome}
use Rattle.sx_term.proofs.cutting_laws.spaced_is_cut.Goals as goal

pub returns-clause-outcome : goal.returns-clause-outcome
returns-clause-outcome c literals metas ts ending all utf8 blanks few = spaced_outcome literals metas ts ending all utf8 blanks few

pub returns-clause-cut : goal.returns-clause-cut
returns-clause-cut c literals metas ts ending all blanks = spaced_cut literals metas (length (spaced ts ++ ending)) 0 ts ending all blanks (omega arith)
