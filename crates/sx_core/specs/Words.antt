-- The words of a line, each after one blank.
use Rattle.std.specs.Prelude.{◌≡◌, ℕ, ◌≤◌, List, [], ◌∷◌, ◌++◌, length, take, drop}
use Rattle.sx_term.specs.declared.text_error.TextError.{TextError}
use Rattle.sx_term.specs.declared.text_error.TextError.TheVariants.{NotUtf8, Memory as NoRoom}
use Rattle.sx_lines.specs.Bytes.{space}
use Rattle.sx_lines.specs.Blanks.{NoSpace}
use Rattle.sx_core.specs.File.{words_text}
use Rattle.sx_core.specs.Stated.{IsCoreName, AreStatedNames}
use Rattle.sx_core.specs.declared.terms_row.RowError.{RowError}
use Rattle.sx_core.specs.declared.terms_row.RowError.TheVariants.{Memory, Shape, TooDeep}

-- nothing, or a blank first
abbrev pub BlankFirst : List ℕ → Type 0
BlankFirst [] = Unit {0}
BlankFirst (b ∷ bytes) = b ≡ space

-- the first word ends here
pub record IsWordEnd (text : List ℕ) (at : ℕ) : Type 0 where
  pub inside : at ≤ length text
  pub word : NoSpace (take at text)
  pub stops : BlankFirst (drop at text)

-- a blank, this word, and the rest
pub record IsWordRead (text word rest : List ℕ) : Type 0 where
  pub parts : text ≡ space ∷ (word ++ rest)
  pub spaceless : NoSpace word
  pub stops : BlankFirst rest

-- no word stands there
abbrev pub NoWord : List ℕ → Type 0
NoWord text = (word rest : List ℕ) → text ≡ space ∷ (word ++ rest) → ⊥

-- a blank, this name, and the rest
pub record IsNameRead (text name rest : List ℕ) : Type 0 where
  pub parts : text ≡ space ∷ (name ++ rest)
  pub named : IsCoreName name
  pub stops : BlankFirst rest

-- no name stands there
abbrev pub NameRefused : List ℕ → RowError → Type 0
NameRefused text Memory = Unit {0}
NameRefused text Shape = (name rest : List ℕ) → IsCoreName name → BlankFirst rest →
    text ≡ space ∷ (name ++ rest) → ⊥
NameRefused text (TooDeep depth) = ⊥

-- the whole is no name
abbrev pub NoName : List ℕ → RowError → Type 0
NoName word Memory = Unit {0}
NoName word Shape = IsCoreName word → ⊥
NoName word (TooDeep depth) = ⊥

-- what it is in a row that bytes are no text
abbrev pub core_text_error : TextError → RowError
core_text_error (NotUtf8 place) = Shape
core_text_error NoRoom = Memory

-- just these names
pub record AreNamesRead (text : List ℕ) (names : List (List ℕ)) : Type 0 where
  pub parts : text ≡ words_text names
  pub named : AreStatedNames names

-- there are no names alone
abbrev pub NamesRefused : List ℕ → RowError → Type 0
NamesRefused text Memory = Unit {0}
NamesRefused text Shape = (names : List (List ℕ)) → AreStatedNames names → text ≡ words_text names →
    ⊥
NamesRefused text (TooDeep depth) = ⊥
