-- Commands that are given again over the files that they left.
use Rattle.std.specs.Prelude.{◌≡◌, ℕ, List, [], Result, Ok, Contains}
use Rattle.sx_extcheck.specs.declared.budgets.Budgets.{Budgets}
use Rattle.sx_outside.specs.Files.{Files, after_writes}
use Rattle.sx_steps.specs.declared.step_error.StepError.{StepError}
use Rattle.sx_steps.specs.Agree.{IsSure}
use Rattle.sx_steps.specs.Work.{Plan}
use Rattle.sx_headers.specs.ReadModule.{Module}
use Rattle.sx_closure.specs.ReadModules.{ReadsModules}
use Rattle.sx_compile.specs.CompileModule.{CompilesModule}
use Rattle.sx_build.specs.BuildModules.{BuildsModule}

-- without auditors `compile` ends, but for faults and memory, with a plan that changes no file
abbrev pub CompilesAsBefore : (name : List ℕ) → Budgets → Files → Type 0
CompilesAsBefore name budgets files =
    (result : Result Plan StepError) (tries : ℕ) →
    CompilesModule name budgets [] files result tries → IsSure result →
    (plan : Plan) × (result ≡ Ok plan)
    × ((file : List ℕ) → after_writes plan.files files file ≡ files file)

-- so it does of each module that was built without auditors, over the files that the build leaves
abbrev pub CompilingRepeatsBuilding : Type 0
CompilingRepeatsBuilding =
    (name : List ℕ) (budgets : Budgets) (old new : Files) (plan : Plan) (tries : ℕ) →
    BuildsModule name budgets [] old (Ok plan) tries → new ≡ after_writes plan.files old →
    (modules : List Module) → ReadsModules name old (Ok modules) →
    (m : Module) → Contains modules m → CompilesAsBefore m.header.name budgets new
