-- Rows that are kept while entries are added and rows after them get more places.
use Rattle.std.proofs.Common.{◌≡◌, ◌∙◌, ℕ, suc, ◌<◌, ◌≤◌, ◌⊎◌, inl, inr, List, Option, Some, None, refl, sym, subst, ap}
use Rattle.std.specs.Global.{Vec}
use Rattle.std.specs.List.{slice_get}
use Rattle.std.proofs.lemmas.Bool.{cases_lt}
use Rattle.sx_grammar.specs.Grammar.{Symbol, literal, lexical, part, Grammar, Token}
use Rattle.sx_grammar.specs.Tally.{Tally, one_way, times}
use Rattle.sx_forest.specs.declared.entry.Entry.{Entry}
use Rattle.sx_forest.specs.declared.stretch.Stretch.{Stretch}
use Rattle.sx_forest.specs.Tallies.{tally_of}
use Rattle.sx_forest.specs.Rows.{FitsPart, IsEntryTally, SumTo, sum_none, sum_more, IsNextRow}
use Rattle.sx_forest.specs.Rows.{LeadsNext, IsIn, IsStretchRow, Spreads, entries_at}

module _ (g : Grammar) (sort least : ℕ) (next other : ℕ → Tally) (entries : List Entry)
    (same : (n : ℕ) (e : Entry) → slice_get entries n ≡ Some e → FitsPart g e.maker sort least → other e.to ≡ next e.to) where
  entry_as : (n : ℕ) (e : Entry) (t : Tally) → slice_get entries n ≡ Some e → IsEntryTally g sort least next e t → IsEntryTally g sort least other e t
  entry_as n e t at (inl h) = inl (h.0, h.1 ∙ ap (times (tally_of e.ways)) (sym (same n e at h.0)))
  entry_as n e t at (inr h) = inr h

  sum_as : {n : ℕ} {t : Tally} → SumTo g sort least next entries n t → SumTo g sort least other entries n t
  sum_as sum_none = sum_none
  sum_as (sum_more {n = n} {u = u} e sum at one) = sum_more e (sum_as sum) at (entry_as n e u at one)

-- the ways by a symbol are the same over rows that agree where it leads
pub next_as : (g : Grammar) (tokens : List Token) (entries : List Entry) (symbol : Option Symbol) (place : ℕ) (next other : ℕ → Tally) (t : Tally) →
    ((end : ℕ) → LeadsNext g tokens entries symbol place end → other end ≡ next end) → IsNextRow g tokens entries symbol place next t → IsNextRow g tokens entries symbol place other t
next_as g tokens entries None place next other t same is = is
next_as g tokens entries (Some (literal text)) place next other t same (inl h) = inl (h.0, h.1 ∙ sym (same (suc place) (h.0, refl)))
next_as g tokens entries (Some (literal text)) place next other t same (inr h) = inr h
next_as g tokens entries (Some (lexical kind)) place next other t same (inl h) = inl (h.0, h.1 ∙ ap (times (one_way 1)) (sym (same (suc place) (h.0, refl))))
next_as g tokens entries (Some (lexical kind)) place next other t same (inr h) = inr h
next_as g tokens entries (Some (part sort least)) place next other t same sum =
    sum_as g sort least next other entries (λ n e at fits. same e.to (n, e, at, fits, refl)) sum

module _ (g : Grammar) (tokens : List Token) (symbol : Option Symbol) (to : ℕ) (stretch : Stretch) where
  -- a row stays one where the lists at its places stay
  pub row_in : (old new : List (Vec Entry)) (next row : ℕ → Tally) → ((p : ℕ) → IsIn stretch p → entries_at new p ≡ entries_at old p) →
      IsStretchRow g tokens old symbol to stretch next row → IsStretchRow g tokens new symbol to stretch next row
  row_in old new next row same made = record {
    each = λ p low is. subst (λ l. IsNextRow g tokens l symbol p next (row p)) (sym (same p is)) (made.each p low is);
    outside = made.outside;
  }

  pub spreads_in : (old new : List (Vec Entry)) (other : Stretch) → ((p : ℕ) → IsIn stretch p → entries_at new p ≡ entries_at old p) →
      Spreads g tokens old symbol to stretch other → Spreads g tokens new symbol to stretch other
  spreads_in old new other same spread place end is leads low = spread place end is (subst (λ l. LeadsNext g tokens l symbol place end) (same place is) leads) low

  -- and where the row after it gets places to which the symbol does not lead
  pub row_over : (lists : List (Vec Entry)) (other : Stretch) (next grown row : ℕ → Tally) → Spreads g tokens lists symbol to stretch other →
      ((p : ℕ) → IsIn other p → grown p ≡ next p) → ((p : ℕ) → to < p → grown p ≡ next p) →
      IsStretchRow g tokens lists symbol to stretch next row → IsStretchRow g tokens lists symbol to stretch grown row
  row_over lists other next grown row spread same past made = record {
    each = λ p low is. next_as g tokens (entries_at lists p) symbol p next grown (row p) (λ end leads. by_end p end is leads (cases_lt to end)) (made.each p low is);
    outside = made.outside;
  }
    where
      by_end : (p end : ℕ) → IsIn stretch p → LeadsNext g tokens (entries_at lists p) symbol p end → (to < end) ⊎ (end ≤ to) → grown end ≡ next end
      by_end p end is leads (inl beyond) = past end beyond
      by_end p end is leads (inr low) = same end (spread p end is leads low)
