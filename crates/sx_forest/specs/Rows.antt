-- Rows of ways: how many ways there are to read some symbols from each place of a span up to its
-- end.
use Rattle.std.specs.Prelude.{suc, ◌≡◌, ◌⊎◌, ◌≤◌, ◌<◌, ℕ, ◌+◌, ◌-◌, List, [], Option, None, Some}
use Rattle.std.specs.Prelude.{length, slice_get}
use Rattle.std.specs.Global.{Vec}
use Rattle.sx_grammar.specs.declared.head.Head.{Head}
use Rattle.sx_grammar.specs.Grammar.{Symbol, literal, lexical, part, Grammar, Token, Production}
use Rattle.sx_grammar.specs.Grammar.{production_of}
use Rattle.sx_grammar.specs.Reading.{IsLiteral}
use Rattle.sx_grammar.specs.Items.{ReadsToken}
use Rattle.sx_grammar.specs.Tally.{Tally, no_way, one_way, plus, times, deeper}
use Rattle.sx_earley.specs.Chart.{IsOfSort, next_symbol}
use Rattle.sx_forest.specs.declared.row.Row.{Row}
use Rattle.sx_forest.specs.declared.stretch.Stretch.{Stretch}
use Rattle.sx_forest.specs.declared.entry.Maker.{Maker}
use Rattle.sx_forest.specs.declared.entry.Maker.TheVariants.{Variable, By}
use Rattle.sx_forest.specs.declared.entry.Entry.{Entry}
use Rattle.sx_forest.specs.Tallies.{tally_of, ways_of, IsSmallTally, IsLastRow}

-- the maker makes the sort at least the level
abbrev pub FitsPart : Grammar → Maker → ℕ → ℕ → Type 0
FitsPart g (Variable other) sort least = other ≡ sort
FitsPart g (By head) sort least = IsOfSort (production_of g head) sort least

-- this tally where P holds, and none elsewhere
abbrev pub IsWhere : Type 0 → Tally → Tally → Type 0
IsWhere P u t = (P × (t ≡ u)) ⊎ ((P → ⊥) × (t ≡ no_way))

-- the ways by one entry, and then those of the row
abbrev pub IsEntryTally : Grammar → (sort least : ℕ) → (ℕ → Tally) → Entry → Tally → Type 0
IsEntryTally g sort least next e t = IsWhere (FitsPart g e.maker sort least)
    (times (tally_of e.ways) (next e.to)) t

-- the sum of those of the first n entries
pub data SumTo (g : Grammar) (sort least : ℕ) (next : ℕ → Tally)
    (entries : List Entry) : ℕ → Tally → Type 0 where
  sum_none : SumTo g sort least next entries 0 no_way
  sum_more : {n : ℕ} {t u : Tally} (e : Entry) → SumTo g sort least next entries n t →
      slice_get entries n ≡ Some e →
      IsEntryTally g sort least next e u →
      SumTo g sort least next entries (suc n) (plus t u)

-- the ways to read the symbol from the place, and then those of the row
abbrev pub IsPlaceRow : Grammar → List Token → List Entry → Symbol → (place : ℕ) → (ℕ → Tally) →
    Tally → Type 0
IsPlaceRow g tokens entries (literal text) place next t =
    IsWhere (IsLiteral tokens place text) (next (suc place)) t
IsPlaceRow g tokens entries (lexical kind) place next t =
    IsWhere (ReadsToken tokens (lexical kind) place)
    (times (one_way 1) (next (suc place))) t
IsPlaceRow g tokens entries (part sort least) place next t =
    SumTo g sort least next entries (length entries) t

-- the same of a symbol that may be there
abbrev pub IsNextRow : Grammar → List Token → List Entry → Option Symbol → (place : ℕ) →
    (ℕ → Tally) → Tally → Type 0
IsNextRow g tokens entries None place next t = t ≡ no_way
IsNextRow g tokens entries (Some symbol) place next t =
    IsPlaceRow g tokens entries symbol place next t

-- the entries of the list at this place
abbrev pub list_in : Option (Vec Entry) → List Entry
list_in None = []
list_in (Some v) = v.items

abbrev pub entries_at : List (Vec Entry) → ℕ → List Entry
entries_at lists place = list_in (slice_get lists place)

-- what begins at a place ends no earlier
abbrev pub AllLater : List (Vec Entry) → Type 0
AllLater lists = (place i : ℕ) (e : Entry) → slice_get (entries_at lists place) i ≡ Some e →
    place ≤ e.to

-- from the second on they are in the order of their ends
abbrev pub AreSorted : List Entry → Type 0
AreSorted entries = (i j : ℕ) (a b : Entry) → 0 < i → i ≤ j → slice_get entries i ≡ Some a →
    slice_get entries j ≡ Some b → a.to ≤ b.to

-- so are those of each place
abbrev pub AllSorted : List (Vec Entry) → Type 0
AllSorted lists = (place : ℕ) → AreSorted (entries_at lists place)

-- the stretch has the place
abbrev pub IsIn : Stretch → ℕ → Type 0
IsIn stretch place = (stretch.first ≤ place) × (place < stretch.end)

-- the symbol leads from the place to the end, over a part by an entry
abbrev pub LeadsOver : Grammar → List Token → List Entry → Symbol → (place end : ℕ) → Type 0
LeadsOver g tokens entries (literal text) place end =
    IsLiteral tokens place text × (end ≡ suc place)
LeadsOver g tokens entries (lexical kind) place end =
    ReadsToken tokens (lexical kind) place × (end ≡ suc place)
LeadsOver g tokens entries (part sort least) place end =
    (i : ℕ) × (e : Entry) × (slice_get entries i ≡ Some e) × FitsPart g e.maker sort least ×
    (e.to ≡ end)

-- the same of a symbol that may be there
abbrev pub LeadsNext : Grammar → List Token → List Entry → Option Symbol → (place end : ℕ) → Type 0
LeadsNext g tokens entries None place end = ⊥
LeadsNext g tokens entries (Some symbol) place end = LeadsOver g tokens entries symbol place end

-- where the symbol leads from the stretch, up to this place, is in the other
abbrev pub Spreads : Grammar → List Token → List (Vec Entry) → Option Symbol → (to : ℕ) →
    (stretch other : Stretch) → Type 0
Spreads g tokens lists symbol to stretch other =
    (place end : ℕ) → IsIn stretch place → LeadsNext g tokens
    (entries_at lists place) symbol place end → end ≤ to → IsIn other end

-- the stretch at this place of a list of stretches
abbrev pub stretch_in : Option Stretch → Stretch
stretch_in None = record { first = 0; end = 0 }
stretch_in (Some stretch) = stretch

abbrev pub stretch_at : List Stretch → ℕ → Stretch
stretch_at stretches dot = stretch_in (slice_get stretches dot)

-- the stretch at the head's first symbol has the beginning of the span, and each of the first n
-- symbols but the last leads to the next stretch
pub record AreStretches (g : Grammar) (tokens : List Token) (lists : List (Vec Entry)) (head : Head)
    (n from to : ℕ) (stretches : List Stretch) : Type 0 where
  pub first : IsIn (stretch_at stretches 0) from
  pub each : (dot : ℕ) → suc dot < n → Spreads g tokens lists (next_symbol g head dot) to
      (stretch_at stretches dot) (stretch_at stretches (suc dot))

-- the ways from each place of the stretch by the symbol, and then those of the next row; none from
-- other places
pub record IsStretchRow (g : Grammar) (tokens : List Token) (lists : List (Vec Entry))
    (symbol : Option Symbol) (to : ℕ) (stretch : Stretch) (next row : ℕ → Tally) : Type 0 where
  pub each : (place : ℕ) → place ≤ to → IsIn stretch place →
      IsNextRow g tokens (entries_at lists place) symbol place next (row place)
  pub outside : (place : ℕ) → (place ≤ to → IsIn stretch place → ⊥) → row place ≡ no_way

-- the new row has the ways from each place of the stretch too, and begins there
pub record IsRowExtended (g : Grammar) (tokens : List Token) (lists : List (Vec Entry))
    (symbol : Option Symbol) (next : ℕ → Tally) (places : Stretch) (old new : Row) : Type 0 where
  pub each : (place : ℕ) → IsIn places place →
      IsNextRow g tokens (entries_at lists place) symbol place next (ways_of new place)
  pub kept : (place : ℕ) → (IsIn places place → ⊥) → ways_of new place ≡ ways_of old place
  pub first : places.first ≤ places.end → new.end ≡ places.first + length new.ways

-- how many symbols a production has
abbrev pub symbol_count : Option Production → ℕ
symbol_count None = 0
symbol_count (Some p) = length p.symbols

-- the row at this place of a list of rows
abbrev pub row_in : Option Row → ℕ → Tally
row_in None = λ place. no_way
row_in (Some row) = ways_of row

abbrev pub tally_at : List Row → ℕ → ℕ → Tally
tally_at rows place = row_in (slice_get rows place)

-- the row after all symbols, and the n rows before it, from the last symbol of the head on
pub record AreRows (g : Grammar) (tokens : List Token) (lists : List (Vec Entry)) (head : Head)
    (count n to : ℕ) (stretches : List Stretch) (rows : List Row) : Type 0 where
  pub long : length rows ≡ n + 1
  pub last : IsLastRow to (tally_at rows 0)
  pub each : (k : ℕ) → k < n → IsStretchRow g tokens lists (next_symbol g head (count - k - 1)) to
      (stretch_at stretches (count - k - 1)) (tally_at rows k) (tally_at rows (k + 1))

-- the rows of a span, from that after all symbols to that before all
pub record AreSpanRows (g : Grammar) (tokens : List Token) (lists : List (Vec Entry)) (head : Head)
    (from to : ℕ) (rows : List Row) : Type 0 where
  pub stretches : List Stretch
  pub spread : AreStretches g tokens lists head (symbol_count
      (production_of g head)) from to stretches
  pub are : AreRows g tokens lists head (symbol_count (production_of g head))
      (symbol_count (production_of g head)) to stretches rows

-- the same of rows that are told by their numbers alone
pub record AreWays (g : Grammar) (tokens : List Token) (lists : List (Vec Entry)) (head : Head)
    (count n to : ℕ) (stretches : List Stretch) (row : ℕ → ℕ → Tally) : Type 0 where
  pub last : IsLastRow to (row 0)
  pub each : (k : ℕ) → k < n → IsStretchRow g tokens lists (next_symbol g head (count - k - 1)) to
      (stretch_at stretches (count - k - 1)) (row k) (row (k + 1))

-- the tally is that of the head's rows, one deeper
pub record IsSpanWays (g : Grammar) (tokens : List Token) (lists : List (Vec Entry)) (head : Head)
    (from to : ℕ) (t : Tally) : Type 0 where
  pub stretches : List Stretch
  pub spread : AreStretches g tokens lists head (symbol_count
      (production_of g head)) from to stretches
  pub row : ℕ → ℕ → Tally
  pub are : AreWays g tokens lists head (symbol_count (production_of g head))
      (symbol_count (production_of g head)) to stretches row
  pub is : IsSmallTally (row (symbol_count (production_of g head)) from) →
      t ≡ deeper (row (symbol_count (production_of g head)) from)

-- the ways to read the symbol, if there is one, from the place, and then those of the row; where
-- there is none, those of the row
abbrev pub IsFirstRow : Grammar → List Token → List Entry → Option Symbol → (place : ℕ) →
    (ℕ → Tally) → Tally → Type 0
IsFirstRow g tokens entries None place next t = t ≡ next place
IsFirstRow g tokens entries (Some symbol) place next t =
    IsPlaceRow g tokens entries symbol place next t

-- the tally is that by the head's first symbol, and then the row of the others, one deeper
abbrev pub IsFirstWays : Grammar → List Token → List (Vec Entry) → Head → (from : ℕ) →
    (ℕ → Tally) → Tally → Type 0
IsFirstWays g tokens lists head from next t =
    (u : Tally) × IsFirstRow g tokens (entries_at lists from) (next_symbol g head 0) from next u ×
    (IsSmallTally u → t ≡ deeper u)

-- the tally is the sum over the entries of all tokens
pub record IsWholeWays (g : Grammar) (start n : ℕ) (lists : List (Vec Entry))
    (t : Tally) : Type 0 where
  pub row : ℕ → Tally
  pub last : IsLastRow n row
  pub sum : SumTo g start 0 row (entries_at lists 0) (length (entries_at lists 0)) t
