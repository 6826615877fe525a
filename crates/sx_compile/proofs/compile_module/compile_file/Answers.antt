use Rattle.std.proofs.Common.{ℕ, List, map, refl, subst, ◌∙◌, arith}
use Rattle.std.specs.Prelude.{Ok, Err}
use Rattle.sx_steps.specs.Steps.{Untried}
use Rattle.sx_steps.specs.Stop.{Gives}
use Rattle.sx_steps.specs.Work.{plan_of}
use Rattle.sx_steps.proofs.StepsOn.{goes_from, stops_at, untried}
use Rattle.sx_headers.specs.ReadModule.{module_of, ReadsModule}
use Rattle.sx_headers.specs.ModuleFiles.{module_file}
use Rattle.sx_compile.specs.CompileModule.{CompilesRead}
use Rattle.sx_compile.proofs.compile_module.compile_file.Goals as goal

pub returns-in-Ok-clause-step : goal.returns-in-Ok-clause-step
returns-in-Ok-clause-step g c = λ files told.
    let name = c.args.asked.now.name.now in
    let b = c.args.asked.now.budgets in
    let auditors =
    map (λ b. (goal.Auditor-dyn g (b.vtable, b.value)).meaning b.value) c.args.auditors.now.items in
    let m = module_of c.in-Ok.source in
    goes_from plan_of (Untried (ReadsModule (module_file name) name files))
    (CompilesRead name b auditors files) m c.compile_read-work.result c.args.steps.now
    c.args.steps.now c.compile_read-work.new.steps (
      0,
      (
        subst (λ (file : List ℕ). ReadsModule file name files (Ok m)) c.requires
            (c.in-Ok.ensures.step files told),
        refl,
      ),
      omega arith,
    )
    (c.compile_read-work.ensures.step files (c.in-Ok.ensures.reads.content ∙ told))

pub returns-in-Err-clause-step : goal.returns-in-Err-clause-step
returns-in-Err-clause-step g c = λ files told.
    let name = c.args.asked.now.name.now in
    let b = c.args.asked.now.budgets in
    let auditors =
    map (λ b. (goal.Auditor-dyn g (b.vtable, b.value)).meaning b.value) c.args.auditors.now.items in
    stops_at module_of plan_of (Untried (ReadsModule (module_file name) name files))
    (CompilesRead name b auditors files) c.in-Err.e c.args.steps.now c.args.steps.now
    (untried module_of (ReadsModule (module_file name) name files) (Err c.in-Err.e)
    c.args.steps.now
    (subst (λ (file : List ℕ). Gives module_of (ReadsModule file name files) (Err c.in-Err.e))
    c.requires (c.in-Err.ensures.step files told)))
