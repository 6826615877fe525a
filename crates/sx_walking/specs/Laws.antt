-- What is proved of walks through files.
use Rattle.std.specs.Prelude.{◌≡◌, ℕ, ◌≤◌, List, [], ◌∷◌, ◌++◌, length, map, Result, Ok, Contains}
use Rattle.std.specs.List.{AllByRecursion}
use Rattle.sx_outside.specs.Files.{Files}
use Rattle.sx_imports.specs.Walk.{Name}
use Rattle.sx_steps.specs.declared.stop.Stop.{Stop}
use Rattle.sx_steps.specs.declared.step_error.StepError.{StepError}
use Rattle.sx_steps.specs.Agree.{IsNoReadFault, IsSure, AnswersBy}
use Rattle.sx_steps.specs.Refusal.{status_of, line_of}
use Rattle.sx_steps.specs.Stop.{Gives}
use Rattle.sx_walking.specs.Kinds.{WalkKind, Visits, ReachesBy}

-- ---- one result

-- the stops give the same status and the same line
pub record AnswerAlike (s t : Stop) : Type 0 where
  pub status : status_of s ≡ status_of t
  pub line : line_of s ≡ line_of t

-- by the name there is one result of reading a file, but for read faults
abbrev pub ReadsOne : {A : Type 0} → WalkKind A → Files → Type 0
ReadsOne {A} k files = (name : Name) (x y : Result A Stop) → k.Reads files name x →
    k.Reads files name y → IsNoReadFault x → IsNoReadFault y → x ≡ y

-- where reading a file has one result, a walk has one, but for read faults and out of memory: the
-- same files in the same order, or stops that give the same status and the same line
abbrev pub WalksAgree : {A : Type 0} → WalkKind A → Type 0
WalksAgree {A} k = (files : Files) → ReadsOne k files → (file : List ℕ) (roots : List Name)
    (x y : Result (List A) StepError) → Gives (λ xs. xs) (ReachesBy k file roots files) x →
    Gives (λ xs. xs) (ReachesBy k file roots files) y → IsSure x → IsSure y →
    AnswersBy AnswerAlike x y

-- ---- what was read

-- each file has the name under which it is read
abbrev pub ReadsUnderNames : {A : Type 0} → WalkKind A → Files → Type 0
ReadsUnderNames {A} k files = (name : Name) (x : A) → k.Reads files name (Ok x) → k.name_of x ≡ name

-- the file stands after all that it stands on, and none of its name stands before it
pub record ComesAfter {A : Type 0} (name_of : A → Name) (stands_on : A → List Name)
    (before : List A) (x : A) : Type 0 where
  pub once : ¬ (Contains (map name_of before) (name_of x))
  pub after_them : (name : Name) → Contains (stands_on x) name →
      Contains (map name_of before) name

-- so does each of these
abbrev pub AllComeAfter : {A : Type 0} → (A → Name) → (A → List Name) → List A → Type 0
AllComeAfter {A} name_of stands_on xs = (before after : List A) (x : A) →
    xs ≡ before ++ x ∷ after → ComesAfter name_of stands_on before x

-- each of these was visited under its name
abbrev pub AreVisited : {A : Type 0} → (A → Name) → (Name → Result A Stop → Type 0) → List A →
    Type 0
AreVisited name_of Visits xs = AllByRecursion (λ x. Visits (name_of x) (Ok x)) xs

-- each file that is reached stands after all that it stands on, and was read from its name; the
-- roots are among them
abbrev pub ThoseComeFirst : {A : Type 0} → WalkKind A → Type 0
ThoseComeFirst {A} k = (files : Files) → ReadsUnderNames k files → (file : List ℕ)
    (roots : List Name)
    (xs : List A) → ReachesBy k file roots files (Ok xs) →
    AllComeAfter k.name_of k.stands_on xs × AreVisited k.name_of (Visits k files) xs ×
    ((name : Name) → Contains roots name → Contains (map k.name_of xs) name)

-- of what is reached from one root, the root comes last
abbrev pub RootIsLast : {A : Type 0} → WalkKind A → Type 0
RootIsLast {A} k = (files : Files) → ReadsUnderNames k files → (file : List ℕ) (root : Name)
    (xs : List A) → ReachesBy k file (root ∷ []) files (Ok xs) →
    (before : List Name) × (map k.name_of xs ≡ before ++ root ∷ [])

-- at most 256 files are reached
abbrev pub FewAreReached : {A : Type 0} → WalkKind A → Type 0
FewAreReached {A} k = (files : Files) (file : List ℕ) (roots : List Name) (xs : List A) →
    ReachesBy k file roots files (Ok xs) → length xs ≤ 256
