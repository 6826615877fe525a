-- Readings that are built from the table.
use Rattle.std.specs.Prelude.{suc, ◌≡◌, ◌≢◌, ◌≤◌, ◌<◌, ℕ, ◌-◌, List, [], Option, None, Some, length}
use Rattle.std.specs.Prelude.{slice_get, take}
use Rattle.std.specs.Global.{Vec}
use Rattle.sx_grammar.specs.declared.head.Head.{Head}
use Rattle.sx_grammar.specs.declared.head.Head.TheVariants.{Labelled, Bracketed}
use Rattle.sx_grammar.specs.Grammar.{Symbol, literal, lexical, part, Grammar, Token, Production}
use Rattle.sx_grammar.specs.Grammar.{production_of, HasLevels}
use Rattle.sx_grammar.specs.Reading.{Reading, Readings, branch, bracket, done, ◌▸◌, IsLiteral}
use Rattle.sx_grammar.specs.Reading.{ReadsAll, ReadsBy}
use Rattle.sx_grammar.specs.Items.{ReadsToken, Makes, Item}
use Rattle.sx_grammar.specs.Order.{IsRanking}
use Rattle.sx_grammar.specs.Tally.{Tally, no_way, one_way, more_ways, times, IsVariableAt}
use Rattle.sx_earley.specs.Shown.{plain, literal_texts, tokens_of, ShownBelow}
use Rattle.sx_forest.specs.declared.entry.Maker.{Maker}
use Rattle.sx_forest.specs.declared.entry.Maker.TheVariants.{Variable, By}
use Rattle.sx_forest.specs.declared.entry.Entry.{Entry}
use Rattle.sx_forest.specs.declared.step.Step.{Step}
use Rattle.sx_forest.specs.declared.step.Step.TheVariants as steps
use Rattle.sx_forest.specs.declared.fork.Fork.{Fork}
use Rattle.sx_forest.specs.declared.fork.Fork.TheVariants.{Apart, Inside}
use Rattle.sx_forest.specs.declared.forest.Forest.{Forest}
use Rattle.sx_forest.specs.declared.opened.Opened.{Opened}
use Rattle.sx_forest.specs.Tallies.{tally_of}
use Rattle.sx_forest.specs.Rows.{FitsPart, AreSpanRows, tally_at, entries_at}
use Rattle.sx_forest.specs.Useful.{IsUseful, IsUsefulBy}
use Rattle.sx_forest.specs.Table.{IsFull, CountsReadings}
use Rattle.sx_term.specs.Limits.{most_depth, most_tokens}

-- the symbols of a production, or none
abbrev pub symbols_in : Option Production → List Symbol
symbols_in None = []
symbols_in (Some p) = p.symbols

-- the symbols of the production that the head stands for
abbrev pub symbols_of : Grammar → Head → List Symbol
symbols_of g head = symbols_in (production_of g head)

-- the greatest depth, 0 of none
abbrev pub depth_in : Tally → ℕ
depth_in no_way = 0
depth_in (one_way d) = d
depth_in (more_ways d) = d

-- more than one
abbrev pub IsMore : Tally → Type 0
IsMore no_way = ⊥
IsMore (one_way d) = ⊥
IsMore (more_ways d) = Unit {0}

-- the reading is by the maker, between these places
abbrev pub IsBy : Grammar → List Token → Maker → (from to : ℕ) → Reading → Type 0
IsBy g tokens (Variable sort) from to r = IsVariableAt tokens sort from to r
IsBy g tokens (By head) from to r = (sort : ℕ) → Makes g head sort 0 →
    ReadsBy g tokens head sort from to r

-- the grammar, the tokens and the entries of a forest, as plain data
abbrev pub grammar_in : Forest → Grammar
grammar_in f = plain f.grammar.now

abbrev pub tokens_in : Forest → List Token
tokens_in f = tokens_of f.grammar.now f.shown.now

abbrev pub lists_in : Forest → List (Vec Entry)
lists_in f = f.table.now.lists.items

-- the table is that of the complete spans that are of use, by a grammar whose sorts have ranks
pub record IsForest (f : Forest) : Type 0 where
  pub short : length f.shown.now ≤ most_tokens
  pub below : ShownBelow (length (literal_texts f.grammar.now)) f.shown.now
  pub levels : HasLevels (grammar_in f)
  pub ranked : (rank : ℕ → ℕ) × IsRanking (grammar_in f) rank
  pub full : IsFull (grammar_in f) (tokens_in f) f.start (lists_in f)

-- the entry's readings are counted, none is deeper than 1,000, and it is of use
pub record IsShallowEntry (g : Grammar) (tokens : List Token) (start from : ℕ)
    (e : Entry) : Type 0 where
  pub sound : CountsReadings g tokens start e.maker from e.to (tally_of e.ways)
  pub low : depth_in (tally_of e.ways) ≤ most_depth
  pub useful : IsUsefulBy g tokens e.maker e.to

-- so it is of the span, and the rows are those of its symbols
pub record IsOpened (g : Grammar) (tokens : List Token) (start : ℕ) (lists : List (Vec Entry))
    (o : Opened) : Type 0 where
  pub sound : CountsReadings g tokens start (By o.head) o.from o.to (tally_of o.ways)
  pub low : depth_in (tally_of o.ways) ≤ most_depth
  pub useful : IsUseful g tokens o.head o.to
  pub rows : AreSpanRows g tokens lists o.head o.from o.to o.rows.items

-- the row of the symbols from the dot on
abbrev pub row_from : Grammar → Opened → ℕ → ℕ → Tally
row_from g o dot = tally_at o.rows.items (length (symbols_of g o.head) - dot)

-- an item has the symbols before the dot read up to the place, and those from it on can be read up
-- to the end of the span
pub record IsAt (g : Grammar) (tokens : List Token) (start : ℕ) (o : Opened)
    (dot place : ℕ) : Type 0 where
  pub item : Item g tokens start o.head dot o.from place
  pub some : row_from g o dot place ≢ no_way

-- and the readings are those of the symbols before the dot
pub record IsReadTo (g : Grammar) (tokens : List Token) (start : ℕ) (o : Opened) (dot place : ℕ)
    (kids : Readings) : Type 0 where
  pub at : IsAt g tokens start o dot place
  pub read : ReadsAll g tokens (take dot (symbols_of g o.head)) o.from place kids

-- readings, and others behind them
abbrev pub followed : Readings → Readings → Readings
followed done others = others
followed (kid ▸ kids) others = kid ▸ followed kids others

-- the entry reads the part, and the row the rest
abbrev pub IsUsableEntry : Grammar → (sort least : ℕ) → (ℕ → Tally) → Entry → Type 0
IsUsableEntry g sort least next e = FitsPart g e.maker sort least ×
    (times (tally_of e.ways) (next e.to) ≢ no_way)

-- the first usable entry from an index on, with its index
abbrev pub IsFirstUsable : Grammar → (sort least : ℕ) → (ℕ → Tally) → List Entry →
    (first : ℕ) → Option (ℕ × Entry) → Type 0
IsFirstUsable g sort least next entries first None = (i : ℕ) (e : Entry) → first ≤ i →
    slice_get entries i ≡ Some e → ¬ (IsUsableEntry g sort least next e)
IsFirstUsable g sort least next entries first (Some found) =
    (first ≤ found.0) × (slice_get entries found.0 ≡ Some found.1) ×
    IsUsableEntry g sort least next found.1 ×
    ((i : ℕ) (e : Entry) → first ≤ i → i < found.0 → slice_get entries i ≡ Some e →
    ¬ (IsUsableEntry g sort least next e))

-- the place after the step
abbrev pub end_of : Step → ℕ → ℕ
end_of steps.Literal place = suc place
end_of steps.Token place = suc place
end_of (steps.Part index e) place = e.to

-- the step goes over the symbol at the place; over a part it goes by the first usable entry
abbrev pub GoesOver : Grammar → List Token → List (Vec Entry) → (ℕ → Tally) → (place : ℕ) →
    Symbol → Step → Type 0
GoesOver g tokens lists next place (literal text) step =
    (step ≡ steps.Literal) × IsLiteral tokens place text
GoesOver g tokens lists next place (lexical kind) step =
    (step ≡ steps.Token) × ReadsToken tokens (lexical kind) place
GoesOver g tokens lists next place (part sort least) step =
    (index : ℕ) × (e : Entry) × (step ≡ steps.Part index e) ×
    IsFirstUsable g sort least next (entries_at lists place) 0 (Some (index, e))

-- the step goes over the symbol after the dot, and leaves the rest to be read
pub record IsItemStep (g : Grammar) (tokens : List Token) (start : ℕ) (lists : List (Vec Entry))
    (o : Opened) (dot place : ℕ) (step : Step) : Type 0 where
  pub symbol : Symbol
  pub is : slice_get (symbols_of g o.head) dot ≡ Some symbol
  pub over : GoesOver g tokens lists (row_from g o (suc dot)) place symbol step
  pub after : IsAt g tokens start o (suc dot) (end_of step place)

-- how two readings part at a part, where this entry is the first usable one and has this index, or
-- that they do not
abbrev pub IsForkOf : Grammar → (sort least : ℕ) → (ℕ → Tally) → List Entry →
    (index : ℕ) → Entry → Option Fork → Type 0
IsForkOf g sort least next entries index e (Some (Apart one other)) =
    (one ≡ e) × ((i : ℕ) × (index < i) × (slice_get entries i ≡ Some other) ×
    IsUsableEntry g sort least next other)
IsForkOf g sort least next entries index e (Some (Inside entry)) =
    (entry ≡ e) × IsMore (tally_of e.ways)
IsForkOf g sort least next entries index e None =
    ¬ (IsMore (tally_of e.ways)) × ((i : ℕ) (x : Entry) → index < i → slice_get entries i ≡ Some x →
    ¬ (IsUsableEntry g sort least next x))

-- the entries by which the two readings go
abbrev pub one_of : Fork → Entry
one_of (Apart one other) = one
one_of (Inside entry) = entry

abbrev pub other_of : Fork → Entry
other_of (Apart one other) = other
other_of (Inside entry) = entry

-- what reads by them differs
abbrev pub IsApart : Fork → Type 0
IsApart (Apart one other) = one.maker ≡ other.maker → one.to ≡ other.to → ⊥
IsApart (Inside entry) = IsMore (tally_of entry.ways)

-- both entries fit the part, and what reads by them differs
pub record IsParting (g : Grammar) (tokens : List Token) (start place : ℕ)
    (fork : Fork) : Type 0 where
  pub sort : ℕ
  pub least : ℕ
  pub one : IsShallowEntry g tokens start place (one_of fork)
  pub other : IsShallowEntry g tokens start place (other_of fork)
  pub one_fits : FitsPart g (one_of fork).maker sort least
  pub other_fits : FitsPart g (other_of fork).maker sort least
  pub apart : IsApart fork

-- the entry is one of those from the place, and goes over the part at the dot and leaves the rest
-- to be read
pub record IsThere (g : Grammar) (lists : List (Vec Entry)) (o : Opened) (dot place sort least : ℕ)
    (e : Entry) : Type 0 where
  pub index : ℕ
  pub at : slice_get (entries_at lists place) index ≡ Some e
  pub used : IsUsableEntry g sort least (row_from g o (suc dot)) e

-- the readings part at the part at the dot
pub record IsForkAt (g : Grammar) (lists : List (Vec Entry)) (o : Opened) (dot place : ℕ)
    (fork : Fork) : Type 0 where
  pub sort : ℕ
  pub least : ℕ
  pub symbol : slice_get (symbols_of g o.head) dot ≡ Some (part sort least)
  pub one : IsThere g lists o dot place sort least (one_of fork)
  pub other : IsThere g lists o dot place sort least (other_of fork)
  pub apart : IsApart fork

-- the symbols from the dot on can be read in more ways than one, from the place up to the end of
-- the span
abbrev pub IsMoreAt : Grammar → Opened → (dot place : ℕ) → Type 0
IsMoreAt g o dot place = IsMore (row_from g o dot place)

-- the reading is by the head, with these kids
abbrev pub IsReadingMade : Head → Readings → (from to : ℕ) → Reading → Type 0
IsReadingMade (Labelled label) kids from to r = r ≡ branch label kids from to
IsReadingMade (Bracketed sort) kids from to r = (inner : Reading) × (kids ≡ inner ▸ done) ×
    (r ≡ bracket inner from to)

-- a bracket pair has one kid
abbrev pub HasKids : Head → Readings → Type 0
HasKids (Labelled label) kids = Unit {0}
HasKids (Bracketed sort) kids = (inner : Reading) × (kids ≡ inner ▸ done)

-- the readings of both rows are those of all symbols of the span, and the rows differ
pub record AreKidsApart (g : Grammar) (tokens : List Token) (o : Opened)
    (one other : Readings) : Type 0 where
  pub one_read : ReadsAll g tokens (symbols_of g o.head) o.from o.to one
  pub other_read : ReadsAll g tokens (symbols_of g o.head) o.from o.to other
  pub apart : one ≢ other
