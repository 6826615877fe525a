-- Kinds of files that stand on one another.
use Rattle.std.specs.Prelude.{◌≡◌, Bool, true, false, List, ℕ, Result, Ok, Err}
use Rattle.sx_outside.specs.Files.{Files}
use Rattle.sx_imports.specs.Walk.{Name}
use Rattle.sx_steps.specs.declared.stop.Stop.{Stop}
use Rattle.sx_steps.specs.Steps.{Then}
use Rattle.sx_walking.specs.Reached.{Reaches}

-- What a walk takes from a kind of files that say such data: the name of a file, the names that it
-- stands on in order, what reading the file with a name gives, whether a file fits, the stop of one
-- that does not, and what holds of each that was read.
pub record WalkKind (A : Type 0) : Type 1 where
  pub name_of : A → Name
  pub stands_on : A → List Name
  pub Reads : Files → Name → Result A Stop → Type 0
  pub fits : A → Bool
  pub misfit : Name → A → Stop
  pub IsStated : A → Type 0

-- the file with this name fits, and any other is refused
abbrev pub FileFits : {A : Type 0} → WalkKind A → Name → A → Result A Stop → Type 0
FileFits k name given (Ok x) = (k.fits given ≡ true) × (x ≡ given)
FileFits k name given (Err stop) = (k.fits given ≡ false) × (stop ≡ k.misfit name given)

-- the file with this name, which is to fit
abbrev pub Visits : {A : Type 0} → WalkKind A → Files → Name → Result A Stop → Type 0
Visits k files name = Then (k.Reads files name) (FileFits k name)

-- the files that are reached from the roots, all of which fit; a cycle, and that there are too
-- many, are told of the file
abbrev pub ReachesBy : {A : Type 0} → WalkKind A → (file : List ℕ) → (roots : List Name) → Files →
    Result (List A) Stop → Type 0
ReachesBy k file roots files = Reaches k.stands_on (Visits k files) file roots

-- the file has this name, fits, and is as each is that was read
abbrev pub IsFileSound : {A : Type 0} → WalkKind A → Name → Result A Stop → Type 0
IsFileSound k name (Ok x) = (k.name_of x ≡ name) × (k.fits x ≡ true) × k.IsStated x
IsFileSound k name (Err stop) = ⊥

-- by such files alone, these are reached from the roots
abbrev pub AreFilesReached : {A : Type 0} → WalkKind A → (file : List ℕ) → (roots : List Name) →
    List A →
    Type 0
AreFilesReached k file roots xs = Reaches k.stands_on (IsFileSound k) file roots (Ok xs)

-- what the file with this name stands on, where it fits
abbrev pub StandsOn : {A : Type 0} → WalkKind A → Name → A → Result (List Name) Stop → Type 0
StandsOn k name given (Ok names) = (k.fits given ≡ true) × (names ≡ k.stands_on given)
StandsOn k name given (Err stop) = (k.fits given ≡ false) × (stop ≡ k.misfit name given)
