use Rattle.std.proofs.Common.{map, refl, arith}
use Rattle.std.specs.Prelude.{Ok}
use Rattle.sx_words.specs.View.{command_view}
use Rattle.sx_steps.specs.Work.{plan_of}
use Rattle.sx_steps.proofs.StepsOn.{goes_from}
use Rattle.sx_top.proofs.CommandSteps.{names_for, unnamed}
use Rattle.sx_top.proofs.plan.run_named.Goals as goal

pub returns-in-Ok-clause-step : goal.returns-in-Ok-clause-step
returns-in-Ok-clause-step g c = λ files told.
    let named =
    map (λ b. (goal.Auditor-dyn g (b.vtable, b.value)).meaning b.value) c.in-Ok.named.items in
    let command = command_view c.args.command.now in
    goes_from plan_of _ _ named c.run_command-work.result c.args.steps.now c.args.steps.now
    c.run_command-work.new.steps (
      0,
      (names_for _ command _ (Ok named) c.audits_of.ensures c.in-Ok.ensures.step, refl),
      omega arith,
    )
    (c.run_command-work.ensures.step files told)

pub returns-in-Err-clause-step : goal.returns-in-Err-clause-step
returns-in-Err-clause-step g c = λ files told.
    unnamed c.args.handed
    (λ b. (goal.Auditor-dyn g (b.vtable, b.value)).meaning b.value) files
    (command_view c.args.command.now) _ c.in-Err.e c.args.steps.now c.audits_of.ensures
    c.in-Err.ensures.step
