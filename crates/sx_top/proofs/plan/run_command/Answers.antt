use Rattle.std.proofs.Common.{List, map, sym, ◌∙◌, subst}
use Rattle.sx_audit.specs.Meaning.{Meaning}
use Rattle.sx_words.specs.View.{audit_view, command_view}
use Rattle.sx_words.specs.declared.command.Command.{Command}
use Rattle.sx_steps.specs.Stop.{seen_by, Does}
use Rattle.sx_steps.specs.Work.{plan_of}
use Rattle.sx_steps.proofs.StepsOn.{untried}
use Rattle.sx_verify.specs.VerifyModule.{VerifiesModule}
use Rattle.sx_top.specs.Outcome.{Runs}
use Rattle.sx_top.specs.VerifyCore.{VerifiesWhole}
use Rattle.sx_top.proofs.CommandSteps.{runs_module, runs_verify_core, runs_verify_module}
use Rattle.sx_top.proofs.plan.run_command.Goals as goal
use Rattle.sx_top.proofs.plan.run_command.Goals.{Start}

-- what the auditors that the command names are
abbrev named_ones : (g : _) (c : Start g) → List Meaning
named_ones g c =
    map (λ b. (goal.Auditor-dyn g (b.vtable, b.value)).meaning b.value) c.args.named.now.items

pub returns-in-Verify-true-default-clause-step : goal.returns-in-Verify-true-default-clause-step
returns-in-Verify-true-default-clause-step g c = λ files told.
    let arm = c.in-Verify-true-default in
    let named = named_ones g (goal.at.returns-in-Verify-true-default-clause-step g c).Start in
    let result = seen_by plan_of c.plan_verify_core.result in
    let done = untried plan_of (VerifiesWhole arm.name files) c.plan_verify_core.result
    c.args.steps.now (c.plan_verify_core.ensures.step files told) in
    subst (λ (command : Command). Does plan_of (Runs (command_view command) named files)
    c.plan_verify_core.result c.args.steps.now c.args.steps.now) (sym arm.is) (
      done.0,
      runs_verify_core arm.core arm.name named files result done.0
          (sym arm.core-is ∙ arm.core-test) done.1,
      done.2,
    )

pub returns-in-Verify-false-default-clause-step : goal.returns-in-Verify-false-default-clause-step
returns-in-Verify-false-default-clause-step g c = λ files told.
    let arm = c.in-Verify-false-default in
    let named = named_ones g (goal.at.returns-in-Verify-false-default-clause-step g c).Start in
    let result = seen_by plan_of c.plan_verify.result in
    let done = untried plan_of (VerifiesModule arm.name files) c.plan_verify.result
    c.args.steps.now (c.plan_verify.ensures.step files told) in
    subst (λ (command : Command). Does plan_of (Runs (command_view command) named files)
    c.plan_verify.result c.args.steps.now c.args.steps.now) (sym arm.is) (
      done.0,
      runs_verify_module arm.core arm.name named files result done.0
          (sym arm.core-is ∙ arm.core-test) done.1,
      done.2,
    )

pub returns-in-Build-false-default-default-default-default-clause-step :
    goal.returns-in-Build-false-default-default-default-default-clause-step
returns-in-Build-false-default-default-default-default-clause-step g c = λ files told.
    let arm = c.in-Build-false-default-default-default-default in
    let at = goal.at.returns-in-Build-false-default-default-default-default-clause-step g c in
    let named = named_ones g at.Start in
    let result = seen_by plan_of c.build_named.result in
    let done = c.build_named.ensures.step files told in
    subst (λ (command : Command). Does plan_of (Runs (command_view command) named files)
    c.build_named.result c.args.steps.now c.build_named.new.steps) (sym arm.is) (
      done.0,
      runs_module arm.core arm.name arm.tries arm.nodes (map audit_view arm.audits.items)
          c.budgets_for.result named files result done.0 (sym arm.core-is ∙ arm.core-test)
          c.budgets_for.ensures done.1,
      done.2,
    )
