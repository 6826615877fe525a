use Rattle.std.proofs.Common.{Bool, List, map, refl, sym, ap, ◌∙◌, subst}
use Rattle.sx_term.specs.declared.term.Term.{Term}
use Rattle.sx_term.specs.Term.{tree}
use Rattle.sx_rules.specs.Deep.{AreShallow}
use Rattle.sx_rules.specs.Modes.{outputs, outputs_of}
use Rattle.sx_rules.specs.Views.{judgement}
use Rattle.sx_rules.specs.SubjectTerms.{output_mask}
use Rattle.sx_expand.specs.Boxes.{hyps_from, modes_from}
use Rattle.sx_expand.proofs.BoxNodes.{hypothesis-shallow}
use Rattle.sx_expand.proofs.Givens.{one-given}
use Rattle.sx_expand.proofs.box_binding.box_given.Goals as goal

pub enter_places-requires-clause-shallow : goal.enter_places-requires-clause-shallow
enter_places-requires-clause-shallow c =
    subst (λ (ts : List Term). AreShallow (map tree ts)) (sym c.deref.ensures.value)
    (hypothesis-shallow (hyps_from c.args.origin.now).judgements c.args.number
    (judgement c.given_at-it.result.now) c.requires.shallow c.given_at-it.ensures)

pub returns-clause-made : goal.returns-clause-made
returns-clause-made c = λ j at.
    let it = judgement c.given_at-it.result.now in
    let held = c.in_ok-outputs.ensures in
    record {
      is = refl;
      below = held.within;
      outputs =
          held.are
          ∙ ap (λ (ts : List Term). outputs (output_mask c.roles.result.now) (map tree ts)) c.deref.ensures.value
          ∙ ap (λ (m : List Bool). outputs m it.places) c.roles.ensures
          ∙ ap (outputs_of (modes_from c.args.origin.now))
          (one-given (hyps_from c.args.origin.now) c.args.number it j c.given_at-it.ensures at);
    }
