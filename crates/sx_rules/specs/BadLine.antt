-- The first line of a derivation list that is not as defined, by the texts of the lines alone.
use Rattle.std.specs.Prelude.{◌≡◌, ℕ, List, [], ◌∷◌, ◌++◌, length}
use Rattle.sx_lines.specs.Lines.{next_number}

-- no text with these lines, or none that begins with them and one more, states a value
abbrev pub NoneStates : {V : Type 0} → (List (List ℕ) → V → Type 0) → List (List ℕ) →
    List (List ℕ) → Type 0
NoneStates {V} States front [] = (value : V) → States front value → ⊥
NoneStates {V} States front (text ∷ rest) = (more : List (List ℕ)) (value : V) →
    States (front ++ text ∷ more) value → ⊥

-- The lines up to the one of this number are the front of a text that states a value, and with this
-- line they are of none. A line that is missing has the number that a further line would have.
pub record IsFirstMisread {V : Type 0} (States : List (List ℕ) → V → Type 0) (lines : List (List ℕ))
    (number : ℕ) : Type 0 where
  pub front : List (List ℕ)
  pub rest : List (List ℕ)
  pub parts : lines ≡ front ++ rest
  pub place : number ≡ next_number (length front)
  pub more : List (List ℕ)
  pub value : V
  pub good : States (front ++ more) value
  pub bad : NoneStates States front rest
