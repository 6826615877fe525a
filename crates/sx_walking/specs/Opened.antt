-- Files that are held by name while a walk goes on.
use Rattle.std.specs.Prelude.{◌≡◌, List, [], ◌∷◌, Option, Some, None, IsSome, Ok, Contains}
use Rattle.std.specs.Prelude.{if◌then◌else◌}
use Rattle.sx_outside.specs.Files.{Files}
use Rattle.sx_outside.specs.Told.{WhereTold}
use Rattle.sx_imports.specs.Walk.{Name, Imports}
use Rattle.sx_walking.specs.Reached.{Found, uses_in}
use Rattle.sx_walking.specs.Kinds.{WalkKind}
use Rattle.sx_walking.specs.FileTable.{IsFilePut}

-- ---- what was read

-- the file was read under the name, where the files are told
pub record IsOpened {A : Type 0} (k : WalkKind A) (told : Option Files) (name : Name)
    (x : A) : Type 0
  where
    pub named : k.name_of x ≡ name
    pub stated : k.IsStated x
    pub read : WhereTold told (λ files. k.Reads files name (Ok x))

-- so was each that is held
abbrev pub AreOpened : {A : Type 0} → WalkKind A → Option Files → Found A → Type 0
AreOpened {A} k told held = (name : Name) (x : A) → held name ≡ Some x → IsOpened k told name x

-- nothing that was held is lost
abbrev pub KeepsHeld : {A : Type 0} → (old new : Found A) → Type 0
KeepsHeld {A} old new = (name : Name) (x : A) → old name ≡ Some x → new name ≡ Some x

-- the file, where it fits
abbrev pub if_fit : {A : Type 0} → WalkKind A → Option A → Option A
if_fit k None = None
if_fit k (Some x) = if k.fits x then Some x else None

-- those that are held and fit
abbrev pub found_in : {A : Type 0} → WalkKind A → Found A → Found A
found_in k held = λ name. if_fit k (held name)

-- what these stand on
abbrev pub imports_for : {A : Type 0} → WalkKind A → Found A → Imports
imports_for k held = uses_in k.stands_on (found_in k held)

-- what was found stands on the same there
abbrev pub Covers : {A : Type 0} → WalkKind A → Found A → Imports → Type 0
Covers {A} k found imports = (name : Name) (x : A) → found name ≡ Some x →
    imports name ≡ Some (k.stands_on x)

-- the file that was read before is held, and no other
abbrev pub IsBegun : {A : Type 0} → WalkKind A → Option A → Found A → Type 0
IsBegun k None held = (name : Name) → held name ≡ None
IsBegun k (Some x) held = IsFilePut (k.name_of x) x (λ name. None) held

-- ---- the files of an order

-- no name stands twice
abbrev pub AreOnce : List Name → Type 0
AreOnce [] = Unit {0}
AreOnce (name ∷ names) = ¬ (Contains names name) × AreOnce names

-- each of them is held
abbrev pub AreFilesHeld : {A : Type 0} → Found A → List Name → Type 0
AreFilesHeld held [] = Unit {0}
AreFilesHeld held (name ∷ names) = IsSome (held name) × AreFilesHeld held names
