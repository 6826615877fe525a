-- Terms in a line: a blank and a core text for each.
use Rattle.std.specs.Prelude.{◌≡◌, ℕ, ◌<◌, ◌≤◌, List, [], ◌∷◌, ◌++◌, length}
use Rattle.sx_term.specs.Tree.{Tree, depth_of}
use Rattle.sx_term.specs.declared.core_error.CoreError.{CoreError}
use Rattle.sx_term.specs.declared.core_error.CoreError.TheVariants.{BadCore, TooDeep as CoreDeep}
use Rattle.sx_term.specs.declared.core_error.CoreError.TheVariants.{Memory as NoRoom}
use Rattle.sx_term.specs.Core.{core, HasCore, NoDigit}
use Rattle.sx_lines.specs.Bytes.{space}
use Rattle.sx_core.specs.declared.terms_row.RowError.{RowError}
use Rattle.sx_core.specs.declared.terms_row.RowError.TheVariants.{Memory, Shape, TooDeep}
use Rattle.sx_rules.specs.Deep.{AreShallow}
use Rattle.sx_term.specs.Read.{StandsAt}
use Rattle.sx_term.specs.Limits.{most_depth}

abbrev pub terms_text : List Tree → List ℕ
terms_text [] = []
terms_text (t ∷ ts) = space ∷ (core t ++ terms_text ts)

abbrev pub HaveCores : List Tree → Type 0
HaveCores [] = Unit {0}
HaveCores (t ∷ ts) = HasCore t × HaveCores ts

-- a blank, the core text of this term and of no other, and the rest
abbrev pub OneRead : List ℕ → Tree → List ℕ → Type 0
OneRead s t after =
    HasCore t × (depth_of t ≤ most_depth) × (s ≡ space ∷ (core t ++ after))
    × ((u : Tree) (more : List ℕ) → HasCore u → NoDigit more → s ≡ space ∷ (core u ++ more) →
    (u ≡ t) × (more ≡ after))
    × ((u : Tree) (rest : List ℕ) (end : ℕ) → s ≡ space ∷ rest → StandsAt rest 0 end u → u ≡ t)

-- a blank and a core text that is too deep
pub record IsDeepOne (s : List ℕ) (depth : ℕ) : Type 0 where
  pub deep : Tree
  pub rest : List ℕ
  pub end : ℕ
  pub parts : s ≡ space ∷ rest
  pub stands : StandsAt rest 0 end deep
  pub is : depth ≡ depth_of deep
  pub over : most_depth < depth
  pub only : (u : Tree) (more : List ℕ) → HasCore u → NoDigit more → s ≡ space ∷ (core u ++ more) →
      u ≡ deep

-- no blank and core text stand there, or a core text that is too deep
abbrev pub OneRefused : List ℕ → RowError → Type 0
OneRefused s Memory = Unit {0}
OneRefused s Shape = (u : Tree) (more : List ℕ) → HasCore u → s ≡ space ∷ (core u ++ more) → ⊥
OneRefused s (TooDeep d) = IsDeepOne s d

-- just the terms, so many of them
abbrev pub RowRead : List ℕ → ℕ → List Tree → Type 0
RowRead s count ts = (length ts ≡ count) × HaveCores ts × AreShallow ts × (s ≡ terms_text ts)

-- good terms, fewer than so many, and then a core text of this depth, which is over 1,000
pub record IsDeepRow (s : List ℕ) (count depth : ℕ) : Type 0 where
  pub good : List Tree
  pub deep : Tree
  pub rest : List ℕ
  pub end : ℕ
  pub cores : HaveCores good
  pub shallow : AreShallow good
  pub few : length good < count
  pub parts : s ≡ terms_text good ++ (space ∷ rest)
  pub stands : StandsAt rest 0 end deep
  pub is : depth ≡ depth_of deep
  pub over : most_depth < depth

-- Why nothing is as it should be: memory is lacking, or a core text of this depth stands there, or
-- else.
abbrev pub RefusedAs : {A : Type 0} → (A → Type 0) → (ℕ → Type 0) → RowError → Type 0
RefusedAs {A} Is IsDeep Memory = Unit {0}
RefusedAs {A} Is IsDeep Shape = ((x : A) → Is x → ⊥) × ((depth : ℕ) → IsDeep depth → ⊥)
RefusedAs {A} Is IsDeep (TooDeep depth) = ((x : A) → Is x → ⊥) × IsDeep depth

-- what a core error is in a row
abbrev pub row_error : CoreError → RowError
row_error (BadCore place) = Shape
row_error (CoreDeep depth) = TooDeep depth
row_error NoRoom = Memory
