-- How a walk through files goes on.
use Rattle.std.specs.Prelude.{◌≡◌, ℕ, suc, ◌<◌, ◌≤◌, List, Option, Some, None}
use Rattle.std.specs.Prelude.{Result, Ok, Err, IsSome}
use Rattle.std.specs.Global.{Vec}
use Rattle.sx_outside.specs.Files.{Files}
use Rattle.sx_outside.specs.Told.{WhereTold}
use Rattle.sx_imports.specs.Walk.{Name, Imports, Walks}
use Rattle.sx_imports.specs.Walk as walk
use Rattle.sx_imports.specs.Progress.{Progress, Asked, IsOn, visits, entered}
use Rattle.sx_imports.specs.declared.error.WalkError.{WalkError}
use Rattle.sx_imports.specs.declared.error.WalkError.TheVariants as walk_error
use Rattle.sx_words.specs.declared.closure_defect.ClosureDefect.TheVariants as closure_defect
use Rattle.sx_words.specs.declared.refusal.Defect.TheVariants as defect
use Rattle.sx_steps.specs.declared.stop.Stop.{Stop}
use Rattle.sx_steps.specs.declared.step_error.StepError.{StepError}
use Rattle.sx_steps.specs.declared.step_error.StepError.TheVariants as errors
use Rattle.sx_steps.specs.Refusal.{about}
use Rattle.sx_walking.specs.Reached.{Found, IsToldAs, too_many_files}
use Rattle.sx_walking.specs.Kinds.{WalkKind, Visits}
use Rattle.sx_walking.specs.Opened.{AreOpened, KeepsHeld, found_in, imports_for, Covers}
use Rattle.sx_walking.specs.declared.turn.Turn.{Turn}
use Rattle.sx_walking.specs.declared.turn.Turn.TheVariants.{On, Whole}

-- the file of the name was read, if it was not held before
abbrev pub OpensFile : {A : Type 0} → WalkKind A → (told : Option Files) → Name →
    (old new : Found A) →
    Result (Unit {0}) StepError → Type 0
OpensFile k told name old new (Ok done) = KeepsHeld old new × AreOpened k told new
    × IsSome (new name)
OpensFile k told name old new (Err errors.Memory) = Unit {0}
OpensFile k told name old new (Err (errors.Stopped stop)) = (new ≡ old) × (old name ≡ None) ×
    WhereTold told (λ files. k.Reads files name (Err stop))

-- the name was visited: what its file stands on, or why it gives nothing
abbrev pub IsVisit : {A : Type 0} → WalkKind A → (told : Option Files) → Name →
    (old new : Found A) →
    Result (Vec Name) StepError → Type 0
IsVisit {A} k told name old new (Ok names) = KeepsHeld old new × AreOpened k told new ×
    ((x : A) × (found_in k new name ≡ Some x) × (names.items ≡ k.stands_on x))
IsVisit k told name old new (Err errors.Memory) = Unit {0}
IsVisit k told name old new (Err (errors.Stopped stop)) =
    KeepsHeld old new × AreOpened k told new × (found_in k new name ≡ None) ×
    WhereTold told (λ files. Visits k files name (Err stop))

-- the stop of a walk; out of memory has none
abbrev pub walk_stop : List ℕ → WalkError → Option Stop
walk_stop file walk_error.Memory = None
walk_stop file (walk_error.Cycle names) =
    Some (about file (defect.Closure (closure_defect.Cycle names)))
walk_stop file walk_error.TooMany = Some (too_many_files file)

-- this stop, or memory lacks
abbrev pub IsStopOr : Option Stop → StepError → Type 0
IsStopOr wanted errors.Memory = Unit {0}
IsStopOr wanted (errors.Stopped stop) = wanted ≡ Some stop

-- the walk goes on after a visit, or has too many
abbrev pub Enters : (file : List ℕ) → Asked → List Name → Result Turn StepError → Type 0
Enters file asked names (Ok (On next)) = (visits asked.progress < 256) ×
    (next ≡ entered asked.name names asked.progress)
Enters file asked names (Ok (Whole order)) = ⊥
Enters file asked names (Err errors.Memory) = Unit {0}
Enters file asked names (Err (errors.Stopped stop)) = (256 ≤ visits asked.progress) ×
    (stop ≡ too_many_files file)

-- the walk stops, as it is told of the file
pub record StopsSo {A : Type 0} (k : WalkKind A) (told : Option Files) (file : List ℕ)
    (roots : List Name) (held : Found A) (stop : Stop) : Type 0 where
  pub why : walk.Stop
  pub walks : Walks (imports_for k held) 256 roots (Err why)
  pub answered : WhereTold told (λ files. IsToldAs (Visits k files) file why stop)

-- one more visit of the walk
abbrev pub TakesTurn : {A : Type 0} → WalkKind A → (told : Option Files) → (file : List ℕ) →
    (old new : Found A) → Progress → Result Turn StepError → Type 0
TakesTurn k told file old new before (Ok (On after)) = KeepsHeld old new × AreOpened k told new ×
    (visits before < 256) × (visits after ≡ suc (visits before)) ×
    ((imports : Imports) (roots : List Name) → Covers k (found_in k new) imports →
    IsOn imports 256 roots before → IsOn imports 256 roots after)
TakesTurn k told file old new before (Ok (Whole order)) = (new ≡ old) ×
    ((imports : Imports) (roots : List Name) → IsOn imports 256 roots before →
    Walks imports 256 roots (Ok order.items))
TakesTurn k told file old new before (Err errors.Memory) = Unit {0}
TakesTurn k told file old new before (Err (errors.Stopped stop)) =
    KeepsHeld old new × AreOpened k told new × ((roots : List Name) →
    IsOn (imports_for k new) 256 roots before → StopsSo k told file roots new stop)

-- the walk from the roots
abbrev pub AreFilesWalked : {A : Type 0} → WalkKind A → (told : Option Files) → (file : List ℕ) →
    (roots : List Name) → Found A → Result (Vec Name) StepError → Type 0
AreFilesWalked k told file roots held (Ok order) = AreOpened k told held ×
    Walks (imports_for k held) 256 roots (Ok order.items)
AreFilesWalked k told file roots held (Err errors.Memory) = Unit {0}
AreFilesWalked k told file roots held (Err (errors.Stopped stop)) = AreOpened k told held ×
    StopsSo k told file roots held stop
