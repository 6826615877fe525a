-- Complete spans in the order in which they are counted.
use Rattle.std.specs.Prelude.{◌≡◌, ◌⊎◌, ◌<◌, ℕ, ◌+◌, ◌-◌, Contains, List, Option, None, Some}
use Rattle.std.specs.Prelude.{length, slice_get}
use Rattle.std.specs.Global.{Vec}
use Rattle.sx_grammar.specs.declared.head.Head.{Head}
use Rattle.sx_grammar.specs.Grammar.{Grammar, Token, Production, production_of}
use Rattle.sx_grammar.specs.Order.{ComesBefore}
use Rattle.sx_earley.specs.Completed.{head_of}
use Rattle.sx_earley.specs.declared.span.Span.{Span}
use Rattle.sx_forest.specs.declared.ordered.Ordered.{Ordered}
use Rattle.sx_forest.specs.declared.entry.Maker.TheVariants.{By}
use Rattle.sx_forest.specs.declared.entry.Entry.{Entry}
use Rattle.sx_forest.specs.Rows.{entries_at}
use Rattle.sx_forest.specs.Table.{HasEntry, IsForestTable}

-- the sort that a production makes
abbrev pub sort_in : Option Production → ℕ
sort_in None = 0
sort_in (Some p) = p.sort

-- the span has its width, and the rank of the sort that its head makes
abbrev pub IsOrdered : Grammar → (ℕ → ℕ) → Ordered → Type 0
IsOrdered g rank o = (o.width ≡ o.span.to - o.span.from) ×
    (o.rank ≡ rank (sort_in (production_of g (head_of o.span.of))))

-- the first ends before the second, or they end together and it comes before
abbrev pub IsAhead : Ordered → Ordered → Type 0
IsAhead a b = (a.span.to < b.span.to) ⊎ ((a.span.to ≡ b.span.to) ×
    ComesBefore a.width a.rank b.width b.rank)

-- what is ahead stands before
abbrev pub IsInOrder : List Ordered → Type 0
IsInOrder list = (i j : ℕ) (a b : Ordered) → slice_get list i ≡ Some a → slice_get list j ≡ Some b →
    IsAhead a b → i < j

-- the spans in order, each once
pub record AreOrdered (g : Grammar) (rank : ℕ → ℕ) (spans : List Span)
    (list : List Ordered) : Type 0 where
  pub only : (o : Ordered) → Contains list o → Contains spans o.span × IsOrdered g rank o
  pub every : (s : Span) → Contains spans s → (o : Ordered) × Contains list o × (o.span ≡ s)
  pub once : (i j : ℕ) (a b : Ordered) → slice_get list i ≡ Some a → slice_get list j ≡ Some b →
      a.span ≡ b.span → i ≡ j
  pub sorted : IsInOrder list

-- the table has an entry for each of the first n spans of the list, and for no other
pub record IsSoFar (g : Grammar) (tokens : List Token) (start : ℕ) (list : List Ordered) (n : ℕ)
    (lists : List (Vec Entry)) : Type 0 where
  pub table : IsForestTable g tokens start lists
  pub long : length lists ≡ length tokens + 1
  pub has : (q : ℕ) (o : Ordered) → q < n → slice_get list q ≡ Some o →
      HasEntry lists o.span.from (By (head_of o.span.of)) o.span.to
  pub only : (place i : ℕ) (e : Entry) (head : Head) → slice_get
      (entries_at lists place) i ≡ Some e →
      e.maker ≡ By head →
      (q : ℕ) × (o : Ordered) × (q < n) × (slice_get list q ≡ Some o) × (head_of o.span.of ≡ head) ×
      (o.span.from ≡ place) × (o.span.to ≡ e.to)
