-- The table of the tallies of the complete spans that are of use.
use Rattle.std.specs.Prelude.{suc, ◌≡◌, ◌<◌, ◌≤◌, ℕ, ◌+◌, ◌-◌, ◌++◌, List, [], ◌∷◌, Some, length}
use Rattle.std.specs.Prelude.{slice_get}
use Rattle.std.specs.Global.{Vec}
use Rattle.sx_grammar.specs.declared.head.Head.{Head}
use Rattle.sx_grammar.specs.Grammar.{Symbol, Grammar, Token, Production, production_of, is_variable}
use Rattle.sx_grammar.specs.Grammar.{of_sort}
use Rattle.sx_grammar.specs.Reading.{Marked, ReadsAll, ReadsBy, reading_depth, readings_depth}
use Rattle.sx_grammar.specs.Items.{Makes, Item, Span}
use Rattle.sx_grammar.specs.Order.{ComesBefore}
use Rattle.sx_grammar.specs.Tally.{Tally, one_way, IsTally}
use Rattle.sx_earley.specs.Completed.{head_of}
use Rattle.sx_earley.specs.declared.span.Span as completed
use Rattle.sx_forest.specs.declared.ways.Ways.{Ways}
use Rattle.sx_forest.specs.declared.ways.Ways.TheVariants.{One}
use Rattle.sx_forest.specs.declared.entry.Maker.{Maker}
use Rattle.sx_forest.specs.declared.entry.Maker.TheVariants.{Variable, By}
use Rattle.sx_forest.specs.declared.entry.Entry.{Entry}
use Rattle.sx_forest.specs.Tallies.{tally_of}
use Rattle.sx_forest.specs.Rows.{entries_at, AllSorted, IsSpanWays}
use Rattle.sx_forest.specs.Useful.{IsKidEnd, IsUseful}

-- the readings by the maker between these places are counted
abbrev pub CountsReadings : Grammar → List Token → (start : ℕ) → Maker → (place to : ℕ) →
    Tally → Type 0
CountsReadings g tokens start (Variable sort) place to t =
    Marked tokens place (is_variable (of_sort sort)) × (to ≡ suc place) × (t ≡ one_way 1)
CountsReadings g tokens start (By head) place to t =
    Span g tokens start head place to × ((sort : ℕ) → Makes g head sort 0 →
    IsTally (ReadsBy g tokens head sort place to) reading_depth t)

-- one of the entries is for the maker up to this end
abbrev pub HasIn : List Entry → Maker → (to : ℕ) → Type 0
HasIn entries maker to = (i : ℕ) × (e : Entry) × (slice_get entries i ≡ Some e) ×
    (e.maker ≡ maker) × (e.to ≡ to)

-- there is an entry for the maker between these places
abbrev pub HasEntry : List (Vec Entry) → (place : ℕ) → Maker → (to : ℕ) → Type 0
HasEntry lists place maker to = HasIn (entries_at lists place) maker to

-- each entry is counted and stands once, and each metavariable has one; from the second on they are
-- by heads, in the order of their ends
pub record IsForestTable (g : Grammar) (tokens : List Token) (start : ℕ)
    (lists : List (Vec Entry)) : Type 0 where
  pub sound : (place i : ℕ) (e : Entry) → slice_get (entries_at lists place) i ≡ Some e →
      CountsReadings g tokens start e.maker place e.to (tally_of e.ways)
  pub once : (place i j : ℕ) (a b : Entry) → slice_get (entries_at lists place) i ≡ Some a →
      slice_get (entries_at lists place) j ≡ Some b →
      a.maker ≡ b.maker → a.to ≡ b.to → i ≡ j
  pub variables : (place sort : ℕ) → Marked tokens place (is_variable (of_sort sort)) →
      HasEntry lists place (Variable sort) (suc place)
  pub heads : (place i : ℕ) (e : Entry) → 0 < i → slice_get (entries_at lists place) i ≡ Some e →
      (head : Head) × (e.maker ≡ By head)
  pub sorted : AllSorted lists

-- the table has an entry for each complete span that is of use
pub record IsFull (g : Grammar) (tokens : List Token) (start : ℕ)
    (lists : List (Vec Entry)) : Type 0 where
  pub table : IsForestTable g tokens start lists
  pub has : (head : Head) (from to : ℕ) → Span g tokens start head from to →
      IsUseful g tokens head to → HasEntry lists from (By head) to

-- each complete span inside these places that comes before, and that what the head reads up to the
-- last may have as a part, has an entry
abbrev pub HasBefore : Grammar → List Token → (start : ℕ) → (rank : ℕ → ℕ) → List (Vec Entry) →
    Head → (from to sort_rank : ℕ) → Type 0
HasBefore g tokens start rank lists head from to sort_rank =
    (other : Head) (q : Production) (place end : ℕ) → production_of g other ≡ Some q →
    Span g tokens start other place end → from ≤ place → end ≤ to →
    ComesBefore (end - place) (rank q.sort) (to - from) sort_rank →
    IsKidEnd g tokens head to other end → HasEntry lists place (By other) end

-- the row has the tally of the readings of the symbols from each place that the items reach
abbrev pub IsRight : Grammar → List Token → (start : ℕ) → Head → (dot from to : ℕ) → List Symbol →
    (ℕ → Tally) → Type 0
IsRight g tokens start head dot from to rest row =
    (place : ℕ) → Item g tokens start head dot from place →
    IsTally (ReadsAll g tokens rest place to) readings_depth (row place)

-- at most one entry, of the metavariable that stands at the place
pub record IsFirstList (tokens : List Token) (place : ℕ) (entries : List Entry) : Type 0 where
  pub only : (i : ℕ) (e : Entry) → slice_get entries i ≡ Some e →
      (i ≡ 0) × (sort : ℕ) × Marked tokens place (is_variable (of_sort sort)) ×
      (e ≡ record { maker = Variable sort; to = place + 1; ways = One 1 })
  pub every : (sort : ℕ) → Marked tokens place (is_variable (of_sort sort)) →
      HasIn entries (Variable sort) (place + 1)

-- each of the first n lists has its metavariable
pub record IsFirstTable (tokens : List Token) (n : ℕ) (lists : List (Vec Entry)) : Type 0 where
  pub long : length lists ≡ n
  pub each : (place : ℕ) → place < length lists → IsFirstList tokens place (entries_at lists place)

-- the list at the place has one entry more
pub record IsEntryPut (old new : List (Vec Entry)) (place : ℕ) (e : Entry) : Type 0 where
  pub same : length new ≡ length old
  pub there : entries_at new place ≡ entries_at old place ++ e ∷ []
  pub others : (p : ℕ) → (p ≡ place → ⊥) → entries_at new p ≡ entries_at old p

-- the span has an entry more, with its ways
pub record IsEntryAdded (g : Grammar) (tokens : List Token) (old new : List (Vec Entry))
    (s : completed.Span) : Type 0 where
  pub ways : Ways
  pub counted : IsSpanWays g tokens old (head_of s.of) s.from s.to (tally_of ways)
  pub put : IsEntryPut old new s.from (record { maker = By (head_of s.of); to = s.to; ways = ways })
