-- Rows that are kept from one span for the next one, which ends there too.
use Rattle.std.specs.Prelude.{suc, ◌≡◌, ◌≤◌, ◌<◌, ℕ, ◌+◌, ◌-◌, List, Option, Some, slice_get}
use Rattle.std.specs.Global.{Vec}
use Rattle.sx_grammar.specs.declared.head.Head.{Head}
use Rattle.sx_grammar.specs.Grammar.{Symbol, Grammar, Token, production_of}
use Rattle.sx_grammar.specs.Tally.{Tally, no_way}
use Rattle.sx_earley.specs.Chart.{next_symbol}
use Rattle.sx_forest.specs.declared.row.Row.{Row}
use Rattle.sx_forest.specs.declared.kept.Kept.{Kept}
use Rattle.sx_forest.specs.declared.stretch.Stretch.{Stretch}
use Rattle.sx_forest.specs.declared.entry.Entry.{Entry}
use Rattle.sx_forest.specs.Tallies.{ways_of}
use Rattle.sx_forest.specs.Rows.{IsNextRow, IsIn, Spreads, stretch_at, entries_at, symbol_count}
use Rattle.sx_forest.specs.Rows.{AreStretches, AreRows}

-- how many symbols the head has
abbrev pub symbols_by : Grammar → Head → ℕ
symbols_by g head = symbol_count (production_of g head)

-- the stretches lead on from the second symbol, and the rows are those after the first
pub record AreStretchesKept (g : Grammar) (tokens : List Token) (lists : List (Vec Entry))
    (kept : Kept) : Type 0 where
  pub spread : (dot : ℕ) → 0 < dot → suc dot < symbols_by g kept.head →
      Spreads g tokens lists (next_symbol g kept.head dot) kept.to
      (stretch_at kept.stretches.items dot) (stretch_at kept.stretches.items (suc dot))
  pub are : AreRows g tokens lists kept.head (symbols_by g kept.head)
      (symbols_by g kept.head - 1) kept.to kept.stretches.items kept.rows.items

-- so it is of each
abbrev pub AllKept : Grammar → List Token → List (Vec Entry) → List Kept → Type 0
AllKept g tokens lists all =
    (i : ℕ) (kept : Kept) → slice_get all i ≡ Some kept → AreStretchesKept g tokens lists kept

-- they are those of a span from this place
pub record AreRowsReady (g : Grammar) (tokens : List Token) (lists : List (Vec Entry)) (from : ℕ)
    (kept : Kept) : Type 0 where
  pub spread : AreStretches g tokens lists kept.head (symbols_by g kept.head) from kept.to
      kept.stretches.items
  pub are : AreRows g tokens lists kept.head (symbols_by g kept.head)
      (symbols_by g kept.head - 1) kept.to kept.stretches.items kept.rows.items

-- the place is at no symbol but the first
abbrev pub IsClear : ℕ → Kept → Type 0
IsClear place kept =
    (dot : ℕ) → 0 < dot → IsIn (stretch_at kept.stretches.items dot) place → ⊥

-- the places of a stretch that are in front of another
abbrev pub front_of : Stretch → Stretch → Stretch
front_of old new = record { first = new.first; end = old.first }

-- the new stretch has the places of the other one too, and what it has more is in front
pub record IsStretchJoined (old more new : Stretch) : Type 0 where
  pub first : new.first ≤ old.first
  pub end : new.end ≡ old.end
  pub other : (place : ℕ) → IsIn more place → IsIn new place
  pub near : new.first < old.first → (old.first ≤ more.end) × (more.end ≤ old.end)

-- what the new stretch has more is in front, and no later than the end
pub record IsWider (to : ℕ) (old new : Stretch) : Type 0 where
  pub first : new.first ≤ old.first
  pub end : new.end ≡ old.end
  pub near : new.first < old.first → (old.first ≤ to + 1) × (old.first ≤ old.end)

-- the stretches of a span, wider than those before from the second symbol on
pub record AreWider (g : Grammar) (tokens : List Token) (lists : List (Vec Entry)) (head : Head)
    (n from to : ℕ) (old new : List Stretch) : Type 0 where
  pub wider : (dot : ℕ) → 0 < dot → dot < n →
      IsWider to (stretch_at old dot) (stretch_at new dot)
  pub spread : AreStretches g tokens lists head n from to new

-- the row with the ways from these places, which are in front of the others
pub record IsLonger (g : Grammar) (tokens : List Token) (lists : List (Vec Entry))
    (symbol : Option Symbol) (next : ℕ → Tally) (places : Stretch) (old new : Row) : Type 0 where
  pub each : (place : ℕ) → IsIn places place →
      IsNextRow g tokens (entries_at lists place) symbol place next (ways_of new place)
  pub kept : (place : ℕ) → places.end ≤ place → ways_of new place ≡ ways_of old place
  pub none : (place : ℕ) → place < places.first → place < places.end →
      ways_of old place ≡ no_way → ways_of new place ≡ no_way
