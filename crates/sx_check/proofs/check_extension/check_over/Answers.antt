use Rattle.std.proofs.Common.{◌∷◌, [], ℕ, List, subst}
use Rattle.sx_steps.specs.Steps.{NoTries}
use Rattle.sx_steps.specs.Stop.{Does}
use Rattle.sx_steps.specs.Work.{plan_of}
use Rattle.sx_steps.proofs.StepsOn.{lacks_first}
use Rattle.sx_uses.specs.ExtensionFile.{extension_file}
use Rattle.sx_uses.specs.ReadUses.{ReadsUses}
use Rattle.sx_accepting.specs.ExtendedLanguages.{base_of}
use Rattle.sx_check.specs.CheckExtension.{ChecksAll, ChecksReached}
use Rattle.sx_check.proofs.check_extension.check_over.Goals as goal

pub returns-in-Ok-clause-step : goal.returns-in-Ok-clause-step
returns-in-Ok-clause-step g c = λ files told.
    let name = c.args.asked.now.name.now in
    subst (λ (language : List ℕ). Does plan_of (ChecksReached name c.args.asked.now.budgets files language (base_of c.args.language.now.language)) c.check_reached.result c.args.steps.now c.check_reached.new.steps)
    c.in-Ok.ensures.language (c.check_reached.ensures.step files told)

pub returns-in-Err-clause-step : goal.returns-in-Err-clause-step
returns-in-Err-clause-step g c = λ files told.
    let name = c.args.asked.now.name.now in
    lacks_first plan_of NoTries (ReadsUses (extension_file name) c.args.held.header.language (name ∷ []) files) (ChecksAll name c.args.asked.now.budgets (base_of c.args.language.now.language)) c.args.steps.now
