-- The step that makes the environment of a module, by the interfaces of its imports.
use Rattle.std.specs.Prelude.{ℕ, ◌≤◌, List, Result, Ok, Err}
use Rattle.sx_term.specs.Tree.{Tree, depth_of}
use Rattle.sx_interface.specs.Interfaces.{InterfaceParts}
use Rattle.sx_environment.specs.declared.import_error.ImportError.{ImportError}
use Rattle.sx_environment.specs.Environments.{IsEnvironment}
use Rattle.sx_environment.specs.ImportErrors.{HasNoEnvironment}
use Rattle.sx_environment.specs.SeenFrom.{SeenFrom}
use Rattle.sx_steps.specs.declared.stop.Stop.{Stop}
use Rattle.sx_steps.specs.Lower.{Lower}
use Rattle.sx_importing.specs.ImportStops.{import_stop}
use Rattle.sx_term.specs.Limits.{most_depth}

-- the environment of the imports, or the first refusal
abbrev pub HasEnvironment : SeenFrom → List InterfaceParts → Result Tree ImportError → Type 0
HasEnvironment s its (Ok t) = IsEnvironment s its t × (depth_of t ≤ most_depth)
HasEnvironment s its (Err e) = HasNoEnvironment s its e

-- the environment of the imports, or the stop of the first refusal; the file is that of the module
abbrev pub SeesImports : (file : List ℕ) → SeenFrom → List InterfaceParts → Result Tree Stop →
    Type 0
SeesImports file s its = Lower (import_stop file its) (HasEnvironment s its)
