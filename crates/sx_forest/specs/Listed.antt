-- Lists of ways.
use Rattle.std.specs.Prelude.{◌≡◌, ℕ, List, [], ◌∷◌, Option, None, Some, slice_get}
use Rattle.sx_grammar.specs.Tally.{Tally, no_way, one_way, more_ways}
use Rattle.sx_forest.specs.declared.ways.Ways.{Ways}
use Rattle.sx_forest.specs.declared.ways.Ways.TheVariants.{Nothing, One, More}

-- ways as a tally
abbrev pub tally_of : Ways → Tally
tally_of Nothing = no_way
tally_of (One d) = one_way d
tally_of (More d) = more_ways d

abbrev pub tally_in : Option Ways → Tally
tally_in None = no_way
tally_in (Some w) = tally_of w

-- the ways at a place of a row, none after its end
abbrev pub ways_at : List Ways → ℕ → Tally
ways_at row k = tally_in (slice_get row k)

-- the first one, if there is one, and then the others
abbrev pub with_first : Option Ways → List Ways → List Ways
with_first None others = others
with_first (Some first) others = first ∷ others

-- there are others behind a first one alone
abbrev pub IsBehind : Option Ways → List Ways → Type 0
IsBehind None others = others ≡ []
IsBehind (Some first) others = Unit {0}
