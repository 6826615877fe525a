-- What is reached from names by what each uses. A visit of a name gives what stands under it, or a
-- stop.
use Rattle.std.specs.Prelude.{◌≡◌, List, ℕ, map, option_map, Option, Some, Result, Ok, Err}
use Rattle.std.specs.Global.{Vec}
use Rattle.sx_imports.specs.Walk.{Name, Imports, End, Walks, missing, cycle, too_many}
use Rattle.sx_imports.specs.Walk as walk
use Rattle.sx_words.specs.declared.closure_defect.ClosureDefect.TheVariants as closure_defect
use Rattle.sx_words.specs.declared.refusal.Defect.TheVariants as defect
use Rattle.sx_steps.specs.declared.stop.Stop.{Stop}
use Rattle.sx_steps.specs.Refusal.{about}

-- ---- stops

-- the names of a cycle are told of the file
pub record TellsCycle (file : List ℕ) (names : List Name) (stop : Stop) : Type 0 where
  pub told : Vec Name
  pub same : told.items ≡ names
  pub is : stop ≡ about file (defect.Closure (closure_defect.Cycle told))

-- that there are more than 256 is told of the file
abbrev pub too_many_files : List ℕ → Stop
too_many_files file = about file (defect.Closure closure_defect.TooManyModules)

-- ---- what is reached

-- what was found under the names that were visited
abbrev pub Found : Type 0 → Type 0
Found A = Name → Option A

-- what it uses, for each of them
abbrev pub uses_in : {A : Type 0} → (A → List Name) → Found A → Imports
uses_in uses found = λ name. option_map uses (found name)

-- all of it was found by visits
abbrev pub AreVisitsFound : {A : Type 0} → (Name → Result A Stop → Type 0) → Found A → Type 0
AreVisitsFound {A} Visits found = (name : Name) (a : A) → found name ≡ Some a → Visits name (Ok a)

-- The stop of a walk as it is told. Where a visit gives nothing its own stop is told, and the
-- others are told of the file.
abbrev pub IsToldAs : {A : Type 0} → (Name → Result A Stop → Type 0) → (file : List ℕ) →
    walk.Stop → Stop → Type 0
IsToldAs Visits file (missing name) stop = Visits name (Err stop)
IsToldAs Visits file (cycle names) stop = TellsCycle file names stop
IsToldAs Visits file too_many stop = stop ≡ too_many_files file

-- the end of a walk as it is told: what was found under the names in order, or its stop
abbrev pub IsWalkTold : {A : Type 0} → (Name → Result A Stop → Type 0) → (file : List ℕ) → Found A →
    End → Result (List A) Stop → Type 0
IsWalkTold Visits file found (Ok order) (Ok values) = map found order ≡ map Some values
IsWalkTold Visits file found (Err why) (Err stop) = IsToldAs Visits file why stop
IsWalkTold Visits file found (Ok order) (Err stop) = ⊥
IsWalkTold Visits file found (Err why) (Ok values) = ⊥

-- What is reached from the roots by what each uses, each once and after all that it uses, in the
-- order in which a depth-first walk leaves them; or the first stop that the walk comes to. It
-- visits at most 256 names.
pub record Reaches {A : Type 0} (uses : A → List Name) (Visits : Name → Result A Stop → Type 0)
    (file : List ℕ) (roots : List Name) (result : Result (List A) Stop) : Type 0 where
  pub found : Found A
  pub visited : AreVisitsFound Visits found
  pub end : End
  pub walks : Walks (uses_in uses found) 256 roots end
  pub told : IsWalkTold Visits file found end result
