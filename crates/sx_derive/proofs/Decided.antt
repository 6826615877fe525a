use Rattle.std.proofs.Common.{Some, refl, subst}
use Rattle.sx_rules.specs.Rules.{Judgement}
use Rattle.sx_rules.specs.Modes.{outputs_of, goal_of}
use Rattle.sx_rules.specs.Derivations.{Derives}
use Rattle.sx_derive.specs.Laws.{WalkDecides}
use Rattle.sx_rules.proofs.Moded.{judgement_known}
use Rattle.sx_derive.proofs.Walked.{found_is_first, exhausted_means_none}
use Rattle.std.proofs.Common.{◌∙◌}

pub walk_decides : WalkDecides
walk_decides modes rules hyps moded j budget depth = (
  (λ a e.
      let h = found_is_first modes rules hyps moded (goal_of modes j) (Some (outputs_of modes j)) budget depth a e in
      let d = h.derives in
      subst (λ (x : Judgement). Derives rules hyps x a.0) (judgement_known modes d.0 j d.1 (d.2 ∙ h.is_wanted)) d.3),
  (λ e p d. exhausted_means_none modes rules hyps moded (goal_of modes j) (Some (outputs_of modes j)) budget depth e (p, outputs_of modes j) (j, refl, refl, d) refl),
)
