-- The parts of a line.
use Rattle.std.specs.Prelude.{◌≡◌, ℕ, ◌≤◌, false, true, List, [], ◌∷◌, length, take, drop}
use Rattle.std.specs.Prelude.{if◌then◌else◌}
use Rattle.std.specs.List.{AllByRecursion}
use Rattle.sx_lines.specs.Bytes.{is_blank}

-- the first part with one more byte in front
abbrev pub part_with_byte : ℕ → List (List ℕ) → List (List ℕ)
part_with_byte b [] = (b ∷ []) ∷ []
part_with_byte b (part ∷ parts) = (b ∷ part) ∷ parts

-- A part that begins with this byte, before a text with these parts: it is one with the first of
-- them, where the text goes on with no blank.
abbrev pub begun_part : ℕ → List ℕ → List (List ℕ) → List (List ℕ)
begun_part b [] parts = (b ∷ []) ∷ parts
begun_part b (c ∷ text) parts = if is_blank c then (b ∷ []) ∷ parts else part_with_byte b parts

-- the parts of a line: its maximal runs of bytes that are no blank
unfoldable pub parts_of : List ℕ → List (List ℕ)
parts_of [] = []
parts_of (b ∷ text) = if is_blank b then parts_of text else begun_part b text (parts_of text)

-- no byte is a blank
abbrev pub NoBlank : List ℕ → Type 0
NoBlank text = AllByRecursion (λ b. is_blank b ≡ false) text

-- each byte is a blank
abbrev pub AllBlank : List ℕ → Type 0
AllBlank text = AllByRecursion (λ b. is_blank b ≡ true) text

-- nothing, or a blank first
abbrev pub Stops : List ℕ → Type 0
Stops [] = Unit {0}
Stops (b ∷ bytes) = is_blank b ≡ true

-- nothing, or a byte that is no blank first
abbrev pub NoBlankFirst : List ℕ → Type 0
NoBlankFirst [] = Unit {0}
NoBlankFirst (b ∷ bytes) = is_blank b ≡ false

-- this many blanks stand at the front
pub record IsBlankFront (text : List ℕ) (at : ℕ) : Type 0 where
  pub inside : at ≤ length text
  pub blanks : AllBlank (take at text)
  pub starts : NoBlankFirst (drop at text)

-- the first part ends here, where no blank stands at the front
pub record IsPartEnd (text : List ℕ) (at : ℕ) : Type 0 where
  pub inside : at ≤ length text
  pub part : NoBlank (take at text)
  pub stops : Stops (drop at text)
