use Rattle.std.proofs.Common.{refl, ◌∙◌, arith}
use Rattle.std.specs.Prelude.{Err}
use Rattle.sx_steps.specs.Steps.{Untried}
use Rattle.sx_steps.specs.Work.{plan_of}
use Rattle.sx_steps.proofs.StepsOn.{goes_from, stops_at, untried}
use Rattle.sx_accepting.specs.ReadLanguage.{stated_of, ReadsLanguage}
use Rattle.sx_check.specs.CheckExtension.{ChecksOver}
use Rattle.sx_check.proofs.check_extension.check_file.Goals as goal

pub returns-in-Ok-clause-step : goal.returns-in-Ok-clause-step
returns-in-Ok-clause-step g c = λ files told.
    let name = c.args.asked.now.name.now in
    let written_for = c.args.held.header.language in
    goes_from plan_of (Untried (ReadsLanguage written_for files)) (ChecksOver name c.args.asked.now.budgets files written_for) (stated_of c.in-Ok.language) c.check_over-work.result
    c.args.steps.now c.args.steps.now c.check_over-work.new.steps (0, (c.in-Ok.ensures.step files told, refl), omega arith)
    (c.check_over-work.ensures.step files (c.in-Ok.ensures.reads.content ∙ told))

pub returns-in-Err-clause-step : goal.returns-in-Err-clause-step
returns-in-Err-clause-step g c = λ files told.
    let name = c.args.asked.now.name.now in
    let written_for = c.args.held.header.language in
    stops_at stated_of plan_of (Untried (ReadsLanguage written_for files)) (ChecksOver name c.args.asked.now.budgets files written_for) c.in-Err.e c.args.steps.now c.args.steps.now
    (untried stated_of (ReadsLanguage written_for files) (Err c.in-Err.e) c.args.steps.now (c.in-Err.ensures.step files told))
