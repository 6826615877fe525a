-- Marks of the variables that stand in a term.
use Rattle.std.specs.Prelude.{◌≡◌, ℕ, zero, suc, ◌<◌, List, [], ◌∷◌, length, get_or, Bool, true}
use Rattle.std.specs.Prelude.{false}
use Rattle.sx_term.specs.Tree.{Tree, Trees, node, lexeme, hole, none, ◌▹◌}

-- so many marks, none of which is set
abbrev pub no_marks : ℕ → List Bool
no_marks zero = []
no_marks (suc n) = false ∷ no_marks n

-- with the mark of the variable set
abbrev pub marked_at : ℕ → List Bool → List Bool
marked_at v [] = []
marked_at zero (m ∷ ms) = true ∷ ms
marked_at (suc v) (m ∷ ms) = m ∷ marked_at v ms

abbrev mutual
  -- with the marks of the term's variables set
  pub marked : Tree → List Bool → List Bool
  marked (node label kids) ms = marked_all kids ms
  marked (lexeme kind text) ms = ms
  marked (hole v) ms = marked_at v ms

  -- with those of the variables of each of the terms
  pub marked_all : Trees → List Bool → List Bool
  marked_all none ms = ms
  marked_all (t ▹ ts) ms = marked_all ts (marked t ms)

-- this mark is the first that is not set
pub record IsFirstUnmarked (marks : List Bool) (at : ℕ) : Type 0 where
  pub within : at < length marks
  pub here : get_or marks at false ≡ false
  pub before : (v : ℕ) → v < at → get_or marks v false ≡ true
