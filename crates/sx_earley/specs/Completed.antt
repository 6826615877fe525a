-- What a chart tells.
use Rattle.std.specs.Prelude.{◌≡◌, ◌<◌, ◌≤◌, ◌↔◌, ◌⊎◌, ℕ, true, false, List, [], ◌∷◌, ◌++◌}
use Rattle.std.specs.Prelude.{Contains, length, slice_get}
use Rattle.sx_term.specs.declared.sort.Sort.{Sort}
use Rattle.sx_term.specs.declared.sort.Sort.TheVariants.{Lex, Plain, Typed}
use Rattle.sx_grammar.specs.Parts.{Parts}
use Rattle.sx_grammar.specs.Told.{is_typed}
use Rattle.sx_grammar.specs.Grammar.{Grammar, Token, production_of}
use Rattle.sx_grammar.specs.Items as items
use Rattle.sx_grammar.specs.Tally.{EachOnce}
use Rattle.sx_grammar.specs.declared.head.Head.{Head}
use Rattle.sx_grammar.specs.declared.head.Head.TheVariants.{Labelled, Bracketed}
use Rattle.sx_grammar.specs.declared.item.Item.{Item}
use Rattle.sx_earley.specs.declared.span.Span.{Span}
use Rattle.sx_earley.specs.declared.span.SpanOf.{SpanOf}
use Rattle.sx_earley.specs.declared.span.SpanOf.TheVariants.{Node, Bracket}
use Rattle.sx_earley.specs.Chart.{HasDotAtEnd}

-- a chart as plain data
pub record ChartData : Type 0 where
  pub spans : List Span
  pub reach : ℕ

-- the sort is a plain or typed sort of the grammar
abbrev pub IsSort : Parts → Sort → Type 0
IsSort p (Lex kind) = ⊥
IsSort p (Plain n) = (n < length p.sorts) × (is_typed (slice_get p.sorts n) ≡ false)
IsSort p (Typed n) = (n < length p.sorts) × (is_typed (slice_get p.sorts n) ≡ true)

-- its number; a lexical kind has none
abbrev pub sort_number : Sort → ℕ
sort_number (Lex kind) = 0
sort_number (Plain n) = n
sort_number (Typed n) = n

-- what the span is of
abbrev pub head_of : SpanOf → Head
head_of (Node label) = Labelled label
head_of (Bracket sort) = Bracketed sort

abbrev pub of_head : Head → SpanOf
of_head (Labelled label) = Node label
of_head (Bracketed sort) = Bracket sort

-- the spans are exactly those that the items complete
abbrev pub IsChart : Grammar → List Token → ℕ → List Span → Type 0
IsChart g tokens start spans = (s : Span) → Contains spans s
    ↔ items.Span g tokens start (head_of s.of) s.from s.to

-- the span of an item
abbrev pub span_of : Item → Span
span_of i = record { of = of_head i.head; from = i.origin; to = i.end }

-- the spans are those of the complete items of the list, each once
pub record AreSpans (g : Grammar) (keys : List Item) (spans : List Span) : Type 0 where
  pub only : (s : Span) → Contains spans s →
      (i : Item) × Contains keys i × HasDotAtEnd (production_of g i.head) i.dot × (s ≡ span_of i)
  pub every : (i : Item) → Contains keys i → HasDotAtEnd (production_of g i.head) i.dot →
      Contains spans (span_of i)
  pub once : EachOnce spans

-- the span of the item is added, if the item is complete
abbrev pub AddsSpan : Grammar → Item → List Span → List Span → Type 0
AddsSpan g item old new = (HasDotAtEnd (production_of g item.head) item.dot ×
    (new ≡ old ++ span_of item ∷ [])) ⊎ ((HasDotAtEnd (production_of g item.head) item.dot → ⊥) ×
    (new ≡ old))

-- no item of the list ends later
abbrev pub IsReach : List Item → ℕ → Type 0
IsReach keys end = ((i : Item) → Contains keys i → i.end ≤ end) ×
    (((i : Item) × Contains keys i × (i.end ≡ end)) ⊎ (end ≡ 0))
