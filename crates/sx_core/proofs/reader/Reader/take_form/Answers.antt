use Rattle.std.proofs.Common.{subst, sym}
use Rattle.sx_rules.specs.Views.{form}
use Rattle.sx_core.specs.Machine.{StepRefused, AddsForm}
use Rattle.sx_core.specs.declared.found.Found.{Found}
use Rattle.sx_core.specs.declared.keyword.Keyword.TheVariants as keyword
use Rattle.sx_core.proofs.StageLaws.{no_form, declared_so}
use Rattle.sx_core.proofs.reader.Reader.take_form.Goals as goal

pub returns-in_default : goal.returns-in_default
returns-in_default c = λ n. subst (StepRefused c.args.self keyword.Form) (sym c.out_of_order.ensures) (no_form c.args.self.stage c.in_default.not-Declaring)

pub returns-in-Declaring : goal.returns-in-Declaring
returns-in-Declaring c = λ n. declared_so c.args.self keyword.Form _ _ (λ (x : Found). AddsForm c.args.self.found x (form c.args.one)) _ c.in-Declaring.is c.add_form-added.ensures c.declared.ensures
