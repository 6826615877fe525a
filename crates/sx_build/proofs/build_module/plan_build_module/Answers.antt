use Rattle.std.proofs.Common.{List, map, refl, ◌∙◌, subst, arith}
use Rattle.std.specs.Prelude.{Err}
use Rattle.sx_steps.specs.Steps.{Untried}
use Rattle.sx_steps.specs.Stop.{Does}
use Rattle.sx_steps.specs.Work.{plan_of}
use Rattle.sx_steps.proofs.StepsOn.{goes_from, stops_at, untried}
use Rattle.sx_headers.specs.declared.module_file.ModuleFile.{ModuleFile}
use Rattle.sx_headers.specs.ReadModule.{module_of}
use Rattle.sx_closure.specs.ReadModules.{modules_of, ReadsModules}
use Rattle.sx_build.specs.BuildModules.{BuildsRead}
use Rattle.sx_build.proofs.build_module.plan_build_module.Goals as goal

pub returns-in-Ok-clause-step : goal.returns-in-Ok-clause-step
returns-in-Ok-clause-step g c = λ files told.
    let b = c.args.budgets in
    let auditors = map (λ b. (goal.Auditor-dyn g (b.vtable, b.value)).meaning b.value)
    c.args.auditors.items in
    goes_from plan_of (Untried (ReadsModules c.args.name.now files)) (BuildsRead b auditors files)
    (modules_of c.in-Ok.sources) c.build_read-work.result c.args.steps.now c.args.steps.now
    c.build_read-work.new.steps (0, (c.in-Ok.ensures.step files told, refl), omega arith)
    (subst (λ (sources : List ModuleFile). Does plan_of
    (BuildsRead b auditors files (map module_of sources)) c.build_read-work.result
    c.args.steps.now c.build_read-work.new.steps) c.deref.ensures.value
    (c.build_read-work.ensures.step files (c.in-Ok.ensures.reads.content ∙ told)))

pub returns-in-Err-clause-step : goal.returns-in-Err-clause-step
returns-in-Err-clause-step g c = λ files told.
    let auditors = map (λ b. (goal.Auditor-dyn g (b.vtable, b.value)).meaning b.value)
    c.args.auditors.items in
    stops_at modules_of plan_of (Untried (ReadsModules c.args.name.now files))
    (BuildsRead c.args.budgets auditors files) c.in-Err.e c.args.steps.now c.args.steps.now
    (untried modules_of (ReadsModules c.args.name.now files) (Err c.in-Err.e) c.args.steps.now
    (c.in-Err.ensures.step files told))
