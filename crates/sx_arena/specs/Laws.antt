-- What is proved of matching.
use Rattle.std.specs.Prelude.{◌≡◌, ◌↔◌, Some, None}
use Rattle.sx_term.specs.Tree.{Tree}
use Rattle.sx_arena.specs.Matching.{Assignment, match, IsMatch}

-- a match is the extension of the bindings by just the pattern's variables that makes the term the
-- pattern's instance; none is found just where there is none
abbrev pub MatchIsExact : Type 0
MatchIsExact =
    (pattern term : Tree) (env : Assignment) →
    ((more : Assignment) → (match pattern term env ≡ Some more) ↔ IsMatch pattern term env more)
    × ((match pattern term env ≡ None) ↔ ((more : Assignment) → IsMatch pattern term env more → ⊥))
