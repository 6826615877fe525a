-- The longest literal of symbol characters at the front of a text.
use Rattle.std.specs.Prelude.{◌≡◌, ℕ, ◌≤◌, List, ◌++◌, length, Contains}
use Rattle.sx_term.specs.Cutting.{AreSymbols}

-- no literal made of symbol characters that stands at the front of the text has more than n bytes
abbrev pub NoneLonger : List (List ℕ) → List ℕ → ℕ → Type 0
NoneLonger literals text n = (other more : List ℕ) → Contains literals other → AreSymbols other →
    text ≡ other ++ more → length other ≤ n
