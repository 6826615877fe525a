use Rattle.std.proofs.Common.{◌≡◌, drop}
use Rattle.sx_plain.specs.Views.{table_of}
use Rattle.sx_rewrite.specs.Rewriting.{first_over}
use Rattle.sx_extcheck.proofs.Measuring.{images_from}
use Rattle.sx_extcheck.proofs.flat_terms.measure_terms.Given as goal

abbrev pub invariant-loop-term : goal.invariant-loop-term
invariant-loop-term l = first_over (images_from (table_of l.plain) l.terms) ≡ first_over (images_from (table_of l.plain) (drop l.term-index l.terms))
