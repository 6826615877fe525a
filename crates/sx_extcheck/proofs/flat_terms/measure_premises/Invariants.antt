use Rattle.std.proofs.Common.{◌≡◌, drop}
use Rattle.sx_plain.specs.Views.{table_of}
use Rattle.sx_rewrite.specs.Rewriting.{first_over}
use Rattle.sx_extcheck.proofs.Measuring.{premises_from}
use Rattle.sx_extcheck.proofs.flat_terms.measure_premises.Given as goal

abbrev pub invariant-loop-premise : goal.invariant-loop-premise
invariant-loop-premise l = first_over (premises_from (table_of l.plain) l.premises) ≡ first_over (premises_from (table_of l.plain) (drop l.premise-index l.premises))
