-- What is proved of reading extensions.
use Rattle.std.specs.Prelude.{◌≡◌, ℕ, List, [], ◌∷◌, ◌++◌, map, Result, Ok, Contains}
use Rattle.std.specs.List.{AllByRecursion}
use Rattle.sx_outside.specs.Files.{Files}
use Rattle.sx_steps.specs.declared.stop.Stop.{Stop}
use Rattle.sx_steps.specs.declared.step_error.StepError.{StepError}
use Rattle.sx_steps.specs.Agree.{IsNoReadFault, IsSure, AnswersBy}
use Rattle.sx_steps.specs.Stop.{Gives}
use Rattle.sx_walking.specs.Laws.{ComesAfter}
pub use Rattle.sx_walking.specs.Laws.{AnswerAlike}
use Rattle.sx_uses.specs.ExtensionKind.{extension_name}
use Rattle.sx_uses.specs.ExtensionFile.{Extension, used_names}
use Rattle.sx_uses.specs.ReadExtension.{ReadsFile, ReadsExtension}
use Rattle.sx_uses.specs.ReadUses.{ReadsUses}

-- by the name and the files there is one result, but for read faults
abbrev pub FilesAgree : Type 0
FilesAgree = (files : Files) (name : List ℕ) (x y : Result Extension Stop) →
    ReadsFile files name x → ReadsFile files name y → IsNoReadFault x → IsNoReadFault y → x ≡ y

-- by the roots and the files there is one result, but for read faults and out of memory: the same
-- extensions in the same order, or stops that give the same status and the same line
abbrev pub UsesAgree : Type 0
UsesAgree = (file language : List ℕ) (roots : List (List ℕ)) (files : Files)
    (x y : Result (List Extension) StepError) →
    Gives (λ xs. xs) (ReadsUses file language roots files) x →
    Gives (λ xs. xs) (ReadsUses file language roots files) y →
    IsSure x → IsSure y → AnswersBy AnswerAlike x y

-- ---- what was read

-- the names of these extensions
abbrev pub use_names : List Extension → List (List ℕ)
use_names xs = map (λ x. x.header.name) xs

-- the extension stands after all that it uses, and none of its name stands before it
abbrev pub StandsAfterUses : (before : List Extension) → Extension → Type 0
StandsAfterUses = ComesAfter extension_name used_names

-- each of these was read from its file and is written for the language
abbrev pub AreExtensionsRead : (language : List ℕ) → Files → List Extension → Type 0
AreExtensionsRead language files xs =
    AllByRecursion (λ x. ReadsExtension language files x.header.name (Ok x)) xs

-- each extension that was read stands after all that it uses, and the roots are among them
abbrev pub UsesComeFirst : Type 0
UsesComeFirst = (file language : List ℕ) (roots : List (List ℕ)) (files : Files)
    (xs : List Extension) → ReadsUses file language roots files (Ok xs) →
    ((before after : List Extension) (x : Extension) → xs ≡ before ++ x ∷ after →
    StandsAfterUses before x) × AreExtensionsRead language files xs ×
    ((name : List ℕ) → Contains roots name → Contains (use_names xs) name)

-- of what is reached from one root, the root comes last
abbrev pub RootComesLast : Type 0
RootComesLast = (file language root : List ℕ) (files : Files) (xs : List Extension) →
    ReadsUses file language (root ∷ []) files (Ok xs) →
    (before : List (List ℕ)) × (use_names xs ≡ before ++ root ∷ [])
