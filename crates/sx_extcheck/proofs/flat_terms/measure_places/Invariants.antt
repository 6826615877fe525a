use Rattle.std.proofs.Common.{◌≡◌}
use Rattle.sx_plain.specs.Views.{table_of}
use Rattle.sx_rewrite.specs.Rewriting.{first_over}
use Rattle.sx_rules.specs.SubjectTerms.{subject_mask}
use Rattle.sx_extcheck.proofs.Measuring.{picked_from}
use Rattle.sx_extcheck.proofs.flat_terms.measure_places.Given as goal

abbrev pub invariant-loop-i : goal.invariant-loop-i
invariant-loop-i l =
    first_over (picked_from (table_of l.plain) l.subjects (subject_mask l.places) l.terms 0)
    ≡ first_over (picked_from (table_of l.plain) l.subjects (subject_mask l.places) l.terms l.i)
