use Rattle.std.proofs.Common.{map, ℕ, List, refl, subst, arith}
use Rattle.std.specs.Prelude.{Err}
use Rattle.sx_steps.specs.Steps.{Untried}
use Rattle.sx_steps.specs.Stop.{Gives}
use Rattle.sx_steps.specs.Work.{plan_of}
use Rattle.sx_steps.proofs.StepsOn.{goes_from, stops_at, untried}
use Rattle.sx_headers.specs.ReadModule.{module_of}
use Rattle.sx_headers.specs.ModuleFiles.{module_file}
use Rattle.sx_compile.specs.CompileModule.{CompilesOthers}
use Rattle.sx_compile.specs.Imports.{ImportsOthers}
use Rattle.sx_compile.proofs.compile_module.compile_read.Goals as goal

pub returns-in-Ok-clause-step : goal.returns-in-Ok-clause-step
returns-in-Ok-clause-step g c = λ files told.
    let name = c.args.asked.now.name.now in
    let b = c.args.asked.now.budgets in
    let auditors =
    map (λ b. (goal.Auditor-dyn g (b.vtable, b.value)).meaning b.value) c.args.auditors.now.items in
    let m = module_of c.args.source.now in
    goes_from plan_of (Untried (ImportsOthers (module_file name) name m.header))
    (λ done. CompilesOthers name b auditors files m) c.in-Ok.field-0 c.compile_others.result
    c.args.steps.now c.args.steps.now c.compile_others.new.steps (0, (c.in-Ok.ensures.step, refl), omega arith)
    (c.compile_others.ensures.step files told)

pub returns-in-Err-clause-step : goal.returns-in-Err-clause-step
returns-in-Err-clause-step g c = λ files told.
    let name = c.args.asked.now.name.now in
    let b = c.args.asked.now.budgets in
    let auditors =
    map (λ b. (goal.Auditor-dyn g (b.vtable, b.value)).meaning b.value) c.args.auditors.now.items in
    let m = module_of c.args.source.now in
    stops_at (λ (done : Unit {0}). done) plan_of
    (Untried (ImportsOthers (module_file name) name m.header))
    (λ done. CompilesOthers name b auditors files m) c.in-Err.e c.args.steps.now c.args.steps.now
    (untried (λ (done : Unit {0}). done) (ImportsOthers (module_file name) name m.header)
    (Err c.in-Err.e) c.args.steps.now
    (subst (λ (file : List ℕ). Gives (λ (done : Unit {0}). done)
    (ImportsOthers file name m.header) (Err c.in-Err.e)) c.requires.file c.in-Err.ensures.step))
