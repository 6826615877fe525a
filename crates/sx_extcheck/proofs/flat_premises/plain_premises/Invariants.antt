use Rattle.std.proofs.Common.{◌≡◌, drop}
use Rattle.sx_rules.specs.Views.{hypotheses}
use Rattle.sx_plain.specs.Views.{table_of}
use Rattle.sx_extcheck.specs.Hypotheses.{both_given}
use Rattle.sx_extcheck.proofs.Given.{given_from}
use Rattle.sx_extcheck.proofs.flat_premises.plain_premises.Given as goal

abbrev pub invariant-loop-premise : goal.invariant-loop-premise
invariant-loop-premise l = both_given (hypotheses l.given) (given_from (table_of l.plain) (drop l.premise-index l.premises)) ≡ given_from (table_of l.plain) l.premises
