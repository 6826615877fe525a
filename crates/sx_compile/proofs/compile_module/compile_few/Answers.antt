use Rattle.std.proofs.Common.{map, ◌∙◌, refl, arith}
use Rattle.std.specs.Prelude.{Err}
use Rattle.sx_steps.specs.Steps.{Untried}
use Rattle.sx_steps.specs.Work.{plan_of}
use Rattle.sx_steps.proofs.StepsOn.{goes_from, stops_at, untried}
use Rattle.sx_accepting.specs.ReadLanguage.{stated_of, ReadsLanguage}
use Rattle.sx_headers.specs.ReadModule.{module_of}
use Rattle.sx_compile.specs.CompileModule.{CompilesOver}
use Rattle.sx_compile.proofs.compile_module.compile_few.Goals as goal

pub returns-in-Ok-clause-step : goal.returns-in-Ok-clause-step
returns-in-Ok-clause-step g c = λ files told.
    let name = c.args.asked.now.name.now in
    let b = c.args.asked.now.budgets in
    let auditors =
    map (λ b. (goal.Auditor-dyn g (b.vtable, b.value)).meaning b.value) c.args.auditors.now.items in
    let m = module_of c.args.source.now in
    goes_from plan_of (Untried (ReadsLanguage m.header.language files))
    (CompilesOver name b auditors files m) (stated_of c.in-Ok.language) c.compile_over-work.result
    c.args.steps.now c.args.steps.now c.compile_over-work.new.steps
    (0, (c.in-Ok.ensures.step files told, refl), omega arith)
    (c.compile_over-work.ensures.step files (c.in-Ok.ensures.reads.content ∙ told))

pub returns-in-Err-clause-step : goal.returns-in-Err-clause-step
returns-in-Err-clause-step g c = λ files told.
    let name = c.args.asked.now.name.now in
    let b = c.args.asked.now.budgets in
    let auditors =
    map (λ b. (goal.Auditor-dyn g (b.vtable, b.value)).meaning b.value) c.args.auditors.now.items in
    let m = module_of c.args.source.now in
    stops_at stated_of plan_of (Untried (ReadsLanguage m.header.language files))
    (CompilesOver name b auditors files m) c.in-Err.e c.args.steps.now c.args.steps.now
    (untried stated_of (ReadsLanguage m.header.language files) (Err c.in-Err.e) c.args.steps.now
    (c.in-Err.ensures.step files told))
