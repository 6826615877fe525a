-- Tallies of readings in rows of places.
use Rattle.std.specs.Prelude.{◌≡◌, ◌<◌, ◌^◌, ℕ, ◌-◌, ◌∷◌}
use Rattle.sx_grammar.specs.Tally.{Tally, no_way, one_way, more_ways}
use Rattle.sx_forest.specs.declared.row.Row.{Row}
use Rattle.sx_forest.specs.declared.ways.Ways.TheVariants.{Nothing}
unfoldable pub use Rattle.sx_forest.specs.Listed.{tally_of, tally_in, ways_at}

-- the ways of a row from each place, none from its end on
abbrev pub ways_of : Row → ℕ → Tally
ways_of r place = ways_at (Nothing ∷ r.ways) (r.end - place)

-- one more fits a word
abbrev pub IsSmallTally : Tally → Type 0
IsSmallTally no_way = Unit {0}
IsSmallTally (one_way d) = d < 2 ^ 63
IsSmallTally (more_ways d) = d < 2 ^ 63

-- one way at the end, and none elsewhere
pub record IsLastRow (to : ℕ) (row : ℕ → Tally) : Type 0 where
  pub elsewhere : (place : ℕ) → (place ≡ to → ⊥) → row place ≡ no_way
  pub end : row to ≡ one_way 0
