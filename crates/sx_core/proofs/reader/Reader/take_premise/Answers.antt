use Rattle.std.proofs.Common.{refl, sym, subst, ap, map, ◌∙◌}
use Rattle.sx_rules.specs.Views.{premise}
use Rattle.sx_core.specs.Machine.{StepRefused}
use Rattle.sx_core.specs.declared.keyword.Keyword.TheVariants as keyword
use Rattle.sx_core.specs.declared.step_error.StepError.{StepError}
use Rattle.sx_core.proofs.StageLaws.{no_premise}
use Rattle.sx_core.proofs.Wording.{map_last}
use Rattle.sx_core.proofs.reader.Reader.take_premise.Goals as goal

pub returns-in-Ok : goal.returns-in-Ok
returns-in-Ok c = (
  c.in-Premising.open,
  _,
  c.in-Premising.is,
  refl,
  record { line = refl; name = refl; sorts = refl; premises = ap (map premise) c.in-Ok.ensures.items ∙ map_last premise c.in-Premising.open.premises.items _ },
  (refl, refl),
)

pub returns-in_default : goal.returns-in_default
returns-in_default c =
    subst (λ (e : StepError). StepRefused c.args.self keyword.If e × StepRefused c.args.self keyword.Not e) (sym c.out_of_order.ensures)
    (no_premise c.args.self.stage c.in_default.not-Premising)
