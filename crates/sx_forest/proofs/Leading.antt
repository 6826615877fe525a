-- Places from which no symbol leads to where a row has ways.
use Rattle.std.proofs.Common.{◌≡◌, ◌↔◌, ℕ, zero, suc, ◌+◌, ◌-◌, ◌<◌, ◌≤◌, List, ◌⊎◌, inl, inr, ⊎_elim, Option, Some, refl, sym, subst, ap, ◌∙◌, length, get_or, min, arith}
use Rattle.std.specs.Global.{Vec}
use Rattle.std.specs.List.{slice_get}
use Rattle.std.proofs.lemmas.Option.{slice_get-get_or}
use Rattle.std.proofs.lemmas.Bool.{cases_lt}
use Rattle.sx_term.specs.declared.lex_kind.LexKind.{LexKind}
use Rattle.sx_grammar.specs.Grammar.{Symbol, literal, lexical, Grammar, Token}
use Rattle.sx_grammar.specs.Tally.{Tally, no_way, one_way, times}
use Rattle.sx_forest.specs.declared.entry.Entry.{Entry}
use Rattle.sx_forest.specs.declared.stretch.Stretch.{Stretch}
use Rattle.sx_forest.specs.Tallies.{tally_of, ways_of}
use Rattle.sx_forest.specs.Rows.{FitsPart, IsWhere, IsEntryTally, SumTo, sum_none, IsNextRow, IsIn}
use Rattle.sx_forest.specs.Rows.{IsStretchRow, entries_at}
use Rattle.sx_forest.proofs.Reaching.{in_or_out}
use Rattle.sx_forest.specs.declared.row.Row.{Row}
use Rattle.sx_forest.proofs.RowWays.{none_before, none_after}
use Rattle.sx_forest.proofs.Summing.{no_entry, sum_on, fits_or_not, nothing_after}
use Rattle.sx_forest.proofs.Telling.{literal_or_not, lexical_or_not}

none_where : (P : Type 0) (u : Tally) → P ⊎ (P → ⊥) → u ≡ no_way → IsWhere P u no_way
none_where P u (inl p) e = inl (p, sym e)
none_where P u (inr n) e = inr (n, refl)

module _ (g : Grammar) (sort least : ℕ) (next : ℕ → Tally) (entries : List Entry)
    (none : (i : ℕ) (e : Entry) → slice_get entries i ≡ Some e → FitsPart g e.maker sort least → next e.to ≡ no_way) where
  none_by_entry : (i : ℕ) (e : Entry) → slice_get entries i ≡ Some e → IsEntryTally g sort least next e no_way
  none_by_entry i e at = by_case (fits_or_not g e.maker sort least)
    where
      by_case : FitsPart g e.maker sort least ⊎ (FitsPart g e.maker sort least → ⊥) → IsEntryTally g sort least next e no_way
      by_case (inl fits) = inl (fits, sym (nothing_after (tally_of e.ways)) ∙ ap (times (tally_of e.ways)) (sym (none i e at fits)))
      by_case (inr not_fits) = inr (not_fits, refl)

  none_to : (n : ℕ) → n ≤ length entries → SumTo g sort least next entries n no_way
  none_to zero low = sum_none
  none_to (suc n) low =
      let x = get_or entries n no_entry in
      let up : n + 1 ≡ suc n = omega arith in
      subst (λ m. SumTo g sort least next entries m no_way) up
      (sum_on g sort least next entries n no_way no_way no_way (omega arith) (none_to n (omega arith))
      (none_by_entry n x (slice_get-get_or entries n no_entry (omega arith))) refl)

  -- no ways by the entries
  pub no_sum : SumTo g sort least next entries (length entries) no_way
  no_sum = none_to (length entries) (omega arith)

-- no ways by a token
pub no_literal : (g : Grammar) (tokens : List Token) (entries : List Entry) (text : List ℕ) (place : ℕ) (next : ℕ → Tally) →
    next (suc place) ≡ no_way → IsNextRow g tokens entries (Some (literal text)) place next no_way
no_literal g tokens entries text place next none = none_where _ _ (literal_or_not tokens place text) none

pub no_lexical : (g : Grammar) (tokens : List Token) (entries : List Entry) (kind : LexKind) (place : ℕ) (next : ℕ → Tally) →
    next (suc place) ≡ no_way → IsNextRow g tokens entries (Some (lexical kind)) place next no_way
no_lexical g tokens entries kind place next none =
    none_where _ (times (one_way 1) (next (suc place))) (lexical_or_not tokens place kind) (ap (times (one_way 1)) none ∙ nothing_after (one_way 1))

-- nor by one from outside those places
pub no_way_outside : (row : Row) (to place : ℕ) (s : Stretch) → s.first ≡ min (row.end - length row.ways - 1) (to + 1) → s.end ≡ min (row.end - 1) (to + 1) →
    place ≤ to → (IsIn s place → ⊥) → ways_of row (suc place) ≡ no_way
no_way_outside row to place s first end low out = by_order (cases_lt place s.first) (cases_lt place s.end)
  where
    by_order : (place < s.first) ⊎ (s.first ≤ place) → (place < s.end) ⊎ (s.end ≤ place) → ways_of row (suc place) ≡ no_way
    by_order (inl early) h = none_before row (suc place) (omega arith)
    by_order (inr after) (inl under) = absurd (out (after, under))
    by_order (inr after) (inr past) = none_after row (suc place) (omega arith)

-- a row that is made from some places of a stretch only, where there are no ways from the others
pub row_of_some : (g : Grammar) (tokens : List Token) (lists : List (Vec Entry)) (symbol : Option Symbol) (to : ℕ) (stretch some : Stretch) (next row : ℕ → Tally) →
    ((p : ℕ) → IsIn some p → IsIn stretch p) →
    ((p : ℕ) → p ≤ to → IsIn stretch p → (IsIn some p → ⊥) → IsNextRow g tokens (entries_at lists p) symbol p next no_way) →
    IsStretchRow g tokens lists symbol to some next row → IsStretchRow g tokens lists symbol to stretch next row
row_of_some g tokens lists symbol to stretch some next row back none made = record {
  each = λ place low is. ⊎_elim (λ h. made.each place low h)
      (λ out. subst (λ t. IsNextRow g tokens (entries_at lists place) symbol place next t) (sym (made.outside place (λ l h. out h))) (none place low is out))
      (in_or_out some place);
  outside = λ place out. made.outside place (λ low h. out low (back place h));
}

-- a row of the places of a stretch up to the end is one of the stretch
pub row_clipped : (g : Grammar) (tokens : List Token) (lists : List (Vec Entry)) (symbol : Option Symbol) (to : ℕ) (stretch own : Stretch) (next row : ℕ → Tally) →
    ((p : ℕ) → p ≤ to → IsIn stretch p ↔ IsIn own p) → IsStretchRow g tokens lists symbol to own next row → IsStretchRow g tokens lists symbol to stretch next row
row_clipped g tokens lists symbol to stretch own next row same made = record {
  each = λ p low is. made.each p low ((same p low).0 is);
  outside = λ p out. made.outside p (λ low is. out low ((same p low).1 is));
}
