-- A table of literals, by which those at the front of a text are found.
use Rattle.std.specs.Prelude.{◌≡◌, ℕ, ◌<◌, ◌≤◌, List, ◌∷◌, length, Some, None, slice_get}
use Rattle.std.specs.Prelude.{slice_index, Contains, ◌==◌, IsTrue}
use Rattle.std.specs.Str.{bytes_eq}
use Rattle.std.specs.HashMap.{get_by}
use Rattle.std.specs.HashSet.{contains_by}
use Rattle.sx_token.specs.declared.table.Table.{Table}

-- the table finds each literal's place, knows each literal's length, and knows a length that no
-- literal with the same first byte passes
pub record IsLiteralTable (literals : List (List ℕ)) (t : Table) : Type 0 where
  pub found : (text : List ℕ) (i : ℕ) → get_by (λ k. bytes_eq text k.now) t.places ≡ Some i →
      slice_get literals i ≡ Some text
  pub none : (text : List ℕ) → get_by (λ k. bytes_eq text k.now) t.places ≡ None →
      ¬ (Contains literals text)
  pub sized : (text : List ℕ) → Contains literals text →
      IsTrue (contains_by (λ n. length text == n) t.lengths)
  pub longest : (first : ℕ) (others : List ℕ) → Contains literals (first ∷ others) → first < 128 →
      length (first ∷ others) ≤ slice_index t.longest first
