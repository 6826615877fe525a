use Rattle.std.proofs.Common.{◌≡◌, drop, map}
use Rattle.sx_term.specs.Term.{tree}
use Rattle.sx_rules.specs.Modes.{outputs}
use Rattle.sx_rules.specs.SubjectTerms.{output_mask}
use Rattle.sx_unit.proofs.judgement_terms.output_at.Given as goal

abbrev pub invariant-loop-i : goal.invariant-loop-i
invariant-loop-i l = outputs (output_mask l.places) (map tree l.terms) ≡ outputs
    (drop l.i (output_mask l.places)) (drop l.i (map tree l.terms))
