-- The ways of a span by its first symbol and the rows of the others.
use Rattle.std.proofs.Common.{◌≡◌, ◌∙◌, ℕ, ◌+◌, ◌-◌, ◌<◌, ◌≤◌, List, [], ◌∷◌, ◌⊎◌, inl, inr, Option, Some, None, refl, sym, subst, ap, arith}
use Rattle.std.specs.Global.{Vec}
use Rattle.std.proofs.lemmas.Bool.{cases_lt}
use Rattle.std.proofs.lemmas.Option.{none-some}
use Rattle.sx_grammar.specs.declared.head.Head.{Head}
use Rattle.sx_grammar.specs.Grammar.{Symbol, Grammar, Token}
use Rattle.sx_grammar.specs.Tally.{Tally, no_way, deeper}
use Rattle.sx_earley.specs.Chart.{next_symbol}
use Rattle.sx_forest.specs.declared.row.Row.{Row}
use Rattle.sx_forest.specs.declared.stretch.Stretch.{Stretch}
use Rattle.sx_forest.specs.declared.entry.Entry.{Entry}
use Rattle.sx_forest.specs.Tallies.{IsSmallTally, IsLastRow}
use Rattle.sx_forest.specs.Rows.{IsNextRow, IsStretchRow, entries_at, stretch_at, tally_at}
use Rattle.sx_forest.specs.Rows.{AreStretches, AreRows, AreWays, IsSpanWays, IsFirstRow}
use Rattle.sx_forest.specs.Rows.{IsFirstWays}
use Rattle.sx_forest.specs.KeptRows.{symbols_by}
use Rattle.sx_forest.proofs.Summing.{same_or_not}
use Rattle.sx_forest.proofs.Wider.{no_symbols, some_symbols}

-- rows are told by their numbers
pub by_rows : {g : Grammar} {tokens : List Token} {lists : List (Vec Entry)} {head : Head} {count n to : ℕ} {stretches : List Stretch} {rows : List Row} →
    AreRows g tokens lists head count n to stretches rows → AreWays g tokens lists head count n to stretches (tally_at rows)
by_rows are = record { last = are.last; each = are.each }

abbrev only_at : {from place : ℕ} → Tally → (place ≡ from) ⊎ (place ≡ from → ⊥) → Tally
only_at t (inl here) = t
only_at t (inr other) = no_way

-- these ways from one place alone
abbrev alone_at : ℕ → Tally → ℕ → Tally
alone_at from t place = only_at t (same_or_not place from)

only_here : {from place : ℕ} (t : Tally) (s : (place ≡ from) ⊎ (place ≡ from → ⊥)) → place ≡ from → only_at t s ≡ t
only_here t (inl here) e = refl
only_here t (inr other) e = absurd (other e)

only_there : {from place : ℕ} (t : Tally) (s : (place ≡ from) ⊎ (place ≡ from → ⊥)) → (place ≡ from → ⊥) → only_at t s ≡ no_way
only_there t (inl here) other = absurd (other here)
only_there t (inr away) other = refl

abbrev this_or : {A B : Type 0} → A ⊎ B → (ℕ → Tally) → (ℕ → Tally) → ℕ → Tally
this_or (inl a) old new = old
this_or (inr b) old new = new

-- the first n rows, and then a new one
abbrev with_row : ℕ → (ℕ → ℕ → Tally) → (ℕ → Tally) → ℕ → ℕ → Tally
with_row n row new k = this_or (cases_lt k n) (row k) new

this_old : (k n : ℕ) (s : (k < n) ⊎ (n ≤ k)) (old new : ℕ → Tally) → k < n → this_or s old new ≡ old
this_old k n (inl low) old new less = refl
this_old k n (inr high) old new less = absurd (omega arith)

this_new : (k n : ℕ) (s : (k < n) ⊎ (n ≤ k)) (old new : ℕ → Tally) → n ≤ k → this_or s old new ≡ new
this_new k n (inl low) old new more = absurd (omega arith)
this_new k n (inr high) old new more = refl

module _ (g : Grammar) (tokens : List Token) (lists : List (Vec Entry)) (head : Head) (from to : ℕ) (along : from ≤ to) (stretches : List Stretch)
    (only : stretch_at stretches 0 ≡ record { first = from; end = from + 1 }) (spread : AreStretches g tokens lists head (symbols_by g head) from to stretches)
    (row : ℕ → ℕ → Tally) (are : AreWays g tokens lists head (symbols_by g head) (symbols_by g head - 1) to stretches row) where
  abbrev number : ℕ
  number = symbols_by g head

  by_none : next_symbol g head 0 ≡ None → (t u : Tally) → u ≡ row (number - 1) from → (IsSmallTally u → t ≡ deeper u) → IsSpanWays g tokens lists head from to t
  by_none none t u at is =
      let zero_here : number ≡ 0 = no_symbols g head none in
      let z : number - 1 ≡ number = omega (arith, zero_here) in
      let same : u ≡ row number from = at ∙ ap (λ n. row n from) z in
      record {
        stretches = stretches;
        spread = spread;
        row = row;
        are = subst (λ n. AreWays g tokens lists head number n to stretches row) z are;
        is = λ small. is (subst IsSmallTally (sym same) small) ∙ ap deeper same;
      }

  module _ (x : Symbol) (first : next_symbol g head 0 ≡ Some x) (t u : Tally) (next : IsNextRow g tokens (entries_at lists from) (Some x) from (row (number - 1)) u) (is : IsSmallTally u → t ≡ deeper u) where
    some : 0 < number
    some = some_symbols g head (λ none. none-some x (sym none ∙ first))

    abbrev new : ℕ → Tally
    new = alone_at from u

    abbrev all : ℕ → ℕ → Tally
    all = with_row number row new

    here : new from ≡ u
    here = only_here u (same_or_not from from) refl

    made : IsStretchRow g tokens lists (next_symbol g head 0) to (record { first = from; end = from + 1 }) (row (number - 1)) new
    made = record {
      each = λ place low is_in.
          let e : from ≡ place = (let a = is_in.0 in let b = is_in.1 in omega arith) in
          subst (λ p. IsNextRow g tokens (entries_at lists p) (next_symbol g head 0) p (row (number - 1)) (new p)) e
          (rw (first, here) next);
      outside = λ place out. only_there u (same_or_not place from) (λ same. out (omega arith) (omega arith, omega arith));
    }

    all_old : (k : ℕ) → k < number → all k ≡ row k
    all_old k low = this_old k number (cases_lt k number) (row k) new low

    all_new : (k : ℕ) → number ≤ k → all k ≡ new
    all_new k high = this_new k number (cases_lt k number) (row k) new high

    abbrev Made : ℕ → Type 0
    Made k = IsStretchRow g tokens lists (next_symbol g head (number - k - 1)) to (stretch_at stretches (number - k - 1)) (all k) (all (k + 1))

    each : (k : ℕ) → k < number → (k < number - 1) ⊎ (number - 1 ≤ k) → Made k
    each k low (inl less) = rw (all_old k low, all_old (k + 1) (omega arith)) (are.each k less)
    each k low (inr last) =
        let k_is : k ≡ number - 1 = omega arith in
        let dot : number - k - 1 ≡ 0 = omega arith in
        rw (dot, only, all_old k low, all_new (k + 1) (omega arith), k_is) made

    by_some : IsSpanWays g tokens lists head from to t
    by_some =
        let same : u ≡ all number from = sym (ap (λ f. f from) (all_new number (omega arith)) ∙ here) in
        record {
          stretches = stretches;
          spread = spread;
          row = all;
          are = record {
            last = rw (all_old 0 some) are.last;
            each = λ k low. each k low (cases_lt k (number - 1));
          };
          is = λ small. is (subst IsSmallTally (sym same) small) ∙ ap deeper same;
        }

  by_symbol : (o : Option Symbol) → next_symbol g head 0 ≡ o → (t u : Tally) → IsFirstRow g tokens (entries_at lists from) o from (row (number - 1)) u → (IsSmallTally u → t ≡ deeper u) →
      IsSpanWays g tokens lists head from to t
  by_symbol None e t u first is = by_none e t u first is
  by_symbol (Some x) e t u first is = by_some x e t u first is

  -- the ways by the first symbol, and then the row of the others, are those of the span
  pub by_first : (t : Tally) → IsFirstWays g tokens lists head from (row (number - 1)) t → IsSpanWays g tokens lists head from to t
  by_first t w = by_symbol (next_symbol g head 0) refl t w.0 w.1 w.2

-- a head of one symbol at most needs no rows but that of no symbols
pub by_leaf : (g : Grammar) (tokens : List Token) (lists : List (Vec Entry)) (head : Head) (from to : ℕ) → from ≤ to → symbols_by g head ≤ 1 →
    (row : ℕ → Tally) → IsLastRow to row → (t : Tally) → IsFirstWays g tokens lists head from row t → IsSpanWays g tokens lists head from to t
by_leaf g tokens lists head from to along few row last t w =
    let place : Stretch = record { first = from; end = from + 1 } in
    by_first g tokens lists head from to along (place ∷ []) refl
    (record { first = (omega arith, omega arith); each = λ dot low. absurd (omega arith) })
    (λ k. row) (record { last = last; each = λ k low. absurd (omega arith) }) t w
