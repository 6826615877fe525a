use Rattle.std.proofs.Common.{refl, sym, subst, ◌∙◌, arith}
use Rattle.std.specs.Prelude.{Result, Err}
use Rattle.sx_rewrite.proofs.Instanced.{err_is}
use Rattle.sx_steps.specs.declared.step_error.StepError.{StepError}
use Rattle.sx_steps.specs.declared.work.Work.{Work}
use Rattle.sx_steps.specs.Steps.{NoTries, Untried}
use Rattle.sx_steps.specs.Stop.{Does}
use Rattle.sx_steps.specs.Work.{plan_of}
use Rattle.sx_steps.proofs.StepsOn.{goes_from, stops_at, untried, lacks_first}
use Rattle.sx_uses.specs.ExtensionFile.{extension_of}
use Rattle.sx_uses.specs.ReadExtension.{ReadsFile}
use Rattle.sx_check.specs.CheckExtension.{ChecksFile, ChecksExtension}
use Rattle.sx_check.proofs.check_extension.plan_check.Goals as goal

pub returns-in-Ok-clause-step : goal.returns-in-Ok-clause-step
returns-in-Ok-clause-step g c = λ files told.
    let name = c.args.name.now in
    goes_from plan_of (Untried (ReadsFile files name)) (ChecksFile name c.args.budgets files) (extension_of c.in-Ok.held) c.check_file.result c.args.steps.now c.args.steps.now c.check_file.new.steps
    (0, (c.in-Ok.ensures.step files told, refl), omega arith) (c.check_file.ensures.step files (c.in-Ok.ensures.reads.content ∙ told))

pub returns-clause-step : goal.returns-clause-step
returns-clause-step g c = λ files told.
    let name = c.args.name.now in
    stops_at extension_of plan_of (Untried (ReadsFile files name)) (ChecksFile name c.args.budgets files) c.in-Err.e c.args.steps.now c.args.steps.now
    (untried extension_of (ReadsFile files name) (Err c.in-Err.e) c.args.steps.now (c.in-Err.ensures.step files told))

pub returns-in_err-file-clause-step : goal.returns-in_err-file-clause-step
returns-in_err-file-clause-step g c = λ files told.
    let name = c.args.name.now in
    let s = c.args.steps.now in
    err_is (λ (result : Result Work StepError). Does plan_of (ChecksExtension name c.args.budgets files) result s s) c.from_residual.result _ c.from_residual.ensures.1
    (λ e is. subst (λ (e : StepError). Does plan_of (ChecksExtension name c.args.budgets files) (Err e) s s) (sym is) (lacks_first plan_of NoTries (ReadsFile files name) (ChecksFile name c.args.budgets files) s))
