-- What is proved of the steps with the interfaces of imports.
use Rattle.std.specs.Prelude.{◌≡◌, ◌⊎◌, ℕ, List, Result}
use Rattle.sx_term.specs.Tree.{Tree}
use Rattle.sx_interface.specs.Interfaces.{InterfaceParts}
use Rattle.sx_environment.specs.declared.import_error.ImportError.{ImportError}
use Rattle.sx_environment.specs.Alike.{RowReadsOthers}
use Rattle.sx_environment.specs.SeenFrom.{SeenFrom}
use Rattle.sx_outside.specs.Files.{Files}
use Rattle.sx_steps.specs.declared.step_error.StepError.{StepError}
use Rattle.sx_steps.specs.declared.stop.Stop.{Stop}
use Rattle.sx_steps.specs.Agree.{AreReadings, IsNoReadFault, IsSure, AnswersBy}
use Rattle.sx_steps.specs.Steps.{Untried}
use Rattle.sx_importing.specs.ImportStops.{import_file}
use Rattle.sx_importing.specs.MakeEnvironment.{SeesImports}
use Rattle.sx_importing.specs.ReadImports.{ImportData, ReadsImports}

-- the stop names the file of one of these imports, of which a row has more than two readings, that
-- two refusals show
pub record IsOfImport (s : SeenFrom) (its : List InterfaceParts) (stop : Stop) : Type 0 where
  pub one : ImportError
  pub other : ImportError
  pub show : RowReadsOthers s its one other
  pub file : stop.file ≡ import_file its show.import

-- the stops are the same, but for the two readings that they show of such a row
abbrev pub SameButRows : SeenFrom → List InterfaceParts → Stop → Stop → Type 0
SameButRows s its x y = (x ≡ y) ⊎ (AreReadings x y × IsOfImport s its x)

-- by the names and the files there is one result, but for read faults
abbrev pub ImportsAreOne : Type 0
ImportsAreOne =
    (files : Files) (names : List (List ℕ)) (x y : Result (List ImportData) Stop) →
    ReadsImports files names x → ReadsImports files names y → IsNoReadFault x → IsNoReadFault y →
    x ≡ y

-- by the imports and what they are seen from there is one result, and no try is made, but for out
-- of memory and such readings
abbrev pub EnvironmentsAgree : Type 0
EnvironmentsAgree =
    (file : List ℕ) (s : SeenFrom) (its : List InterfaceParts) (a b : Result Tree StepError)
    (m n : ℕ) → Untried (SeesImports file s its) a m → Untried (SeesImports file s its) b n →
    IsSure a → IsSure b → AnswersBy (SameButRows s its) a b × (m ≡ n)
