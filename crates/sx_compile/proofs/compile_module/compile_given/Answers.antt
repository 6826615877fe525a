use Rattle.std.specs.Prelude.{map}
use Rattle.sx_unit.specs.Written.{unit_of}
use Rattle.sx_steps.specs.Steps.{Untried}
use Rattle.sx_steps.specs.Work.{plan_of}
use Rattle.sx_steps.proofs.StepsOn.{goes_from, stops_at, untried, reads_on}
use Rattle.sx_compiling.specs.CanMake.{given_of}
use Rattle.sx_compiling.specs.MakeUnit.{MakesUnit}
use Rattle.sx_compile.specs.AuditedPlans.{AuditsUnit}
use Rattle.sx_compile.proofs.compile_module.compile_given.Goals as goal

pub returns-in-Ok-clause-step : goal.returns-in-Ok-clause-step
returns-in-Ok-clause-step g c = λ files told.
    let name = c.args.asked.now.name.now in
    let b = c.args.asked.now.budgets in
    let auditors =
    map (λ b. (goal.Auditor-dyn g (b.vtable, b.value)).meaning b.value) c.args.auditors.now.items in
    let given = given_of c.args.given.now in
    let rules = given.language.language.rules in
    let unit = unit_of c.in-Ok.unit in
    goes_from plan_of (MakesUnit b files given)
    (λ unit. Untried (AuditsUnit name rules auditors unit)) unit c.audit_unit.result
    c.args.steps.now c.make_unit.new.steps c.make_unit.new.steps (c.in-Ok.ensures.step files told)
    (untried plan_of (AuditsUnit name rules auditors unit) c.audit_unit.result
    c.make_unit.new.steps c.audit_unit.ensures.step)

pub returns-in-Ok-clause-reads : goal.returns-in-Ok-clause-reads
returns-in-Ok-clause-reads g c =
    reads_on _ _ _ _ _ _ _ c.audit_unit.result c.in-Ok.ensures.reads c.audit_unit.ensures.no_fault

pub returns-in-Err-clause-step : goal.returns-in-Err-clause-step
returns-in-Err-clause-step g c = λ files told.
    let name = c.args.asked.now.name.now in
    let b = c.args.asked.now.budgets in
    let auditors =
    map (λ b. (goal.Auditor-dyn g (b.vtable, b.value)).meaning b.value) c.args.auditors.now.items in
    let given = given_of c.args.given.now in
    let rules = given.language.language.rules in
    stops_at unit_of plan_of (MakesUnit b files given)
    (λ unit. Untried (AuditsUnit name rules auditors unit)) c.in-Err.e c.args.steps.now
    c.make_unit.new.steps (c.in-Err.ensures.step files told)
