use Rattle.std.proofs.Common.{map}
use Rattle.sx_steps.specs.Steps.{NoTries}
use Rattle.sx_steps.specs.Work.{plan_of}
use Rattle.sx_steps.proofs.StepsOn.{lacks_first}
use Rattle.sx_headers.specs.ReadModule.{ReadsModule}
use Rattle.sx_headers.specs.ModuleFiles.{module_file}
use Rattle.sx_compile.specs.CompileModule.{CompilesRead}
use Rattle.sx_compile.proofs.compile_module.plan_compile.Goals as goal

pub returns-in-Err-clause-step : goal.returns-in-Err-clause-step
returns-in-Err-clause-step g c = λ files told.
    let name = c.args.name.now in
    let auditors =
    map (λ b. (goal.Auditor-dyn g (b.vtable, b.value)).meaning b.value) c.args.auditors.now.items in
    lacks_first plan_of NoTries (ReadsModule (module_file name) name files)
    (CompilesRead name c.args.budgets auditors files) c.args.steps.now
