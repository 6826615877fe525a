-- The step that compiles a module.
use Rattle.std.specs.Prelude.{◌≡◌, ℕ, List, Result, Ok, Err, Some}
use Rattle.sx_extcheck.specs.declared.budgets.Budgets.{Budgets}
use Rattle.sx_typing.specs.Refused.{HasWalked}
use Rattle.sx_typing.specs.declared.module_error.ModuleError.{ModuleError}
use Rattle.sx_unit.specs.Modules.{ModuleData}
use Rattle.sx_unit.specs.Refused.{IsBadModule}
use Rattle.sx_unit.specs.Unit.{IsUnit, IsUnitMade}
use Rattle.sx_unit.specs.Written.{UnitData}
use Rattle.sx_steps.specs.declared.stop.Stop.{Stop}
use Rattle.sx_steps.specs.declared.step_error.StepError.{StepError}
use Rattle.sx_steps.specs.Steps.{Trying}
use Rattle.sx_compiling.specs.ModuleStops.{module_stop}

-- the module is refused
pub record IsUncompiled (file : List ℕ) (m : ModuleData) (b : Budgets) (stop : Stop) : Type 0 where
  pub error : ModuleError
  pub refused : IsBadModule m b error
  pub is : module_stop file error ≡ Some stop

-- the unit of the module, which the walk and the lowering within the budgets make
pub record GivesUnit (m : ModuleData) (b : Budgets) (unit : UnitData) : Type 0 where
  pub is : IsUnit m unit
  pub made : IsUnitMade m b unit

-- the unit of the module, or its refusal
abbrev pub Compiles : List ℕ → Budgets → ModuleData → Result UnitData Stop → Type 0
Compiles file b m (Ok unit) = GivesUnit m b unit
Compiles file b m (Err stop) = IsUncompiled file m b stop

-- the walk of the module's goal makes so many tries
abbrev pub CompilingTries : Budgets → ModuleData → ℕ → Type 0
CompilingTries b m tries = HasWalked m.source b.tries tries

-- the module is compiled with the tries of that walk
abbrev pub CompilesTrying : List ℕ → Budgets → ModuleData → Result UnitData StepError → ℕ → Type 0
CompilesTrying file b m = Trying (CompilingTries b m) (Compiles file b m)
