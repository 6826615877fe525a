-- Rows that get places in front, and what is kept of them.
use Rattle.std.proofs.Common.{◌≡◌, ◌∙◌, ℕ, zero, suc, ◌+◌, ◌-◌, ◌<◌, ◌≤◌, List, [], ◌∷◌, ◌++◌, ◌⊎◌, inl, inr, ⊎_elim, Option, Some, None, refl, sym, subst, ap, length, take, replicate, option_map, set, get_or, Result, Ok, Err, OnOk, false, arith}
use Rattle.std.specs.Global.{Vec}
use Rattle.std.specs.List.{slice_get}
use Rattle.std.specs.Option.{is_some}
use Rattle.std.proofs.lemmas.Bool.{cases_lt, false≢true}
use Rattle.std.proofs.lemmas.Option.{slice_get_within, slice_get-get_or, none-some, same_Some}
use Rattle.sx_grammar.specs.declared.head.Head.{Head}
use Rattle.sx_grammar.specs.Grammar.{Symbol, Grammar, Token, Production, production_of}
use Rattle.sx_grammar.specs.Tally.{Tally, no_way}
use Rattle.sx_earley.specs.Chart.{next_symbol, symbol_after}
use Rattle.sx_earley.specs.Shown.{tokens_of}
use Rattle.sx_forest.specs.declared.basis.Basis.{Basis}
use Rattle.sx_forest.specs.declared.row.Row.{Row}
use Rattle.sx_forest.specs.declared.kept.Kept.{Kept}
use Rattle.sx_forest.specs.declared.stretch.Stretch.{Stretch}
use Rattle.sx_forest.specs.declared.entry.Entry.{Entry}
use Rattle.sx_forest.specs.declared.ways.Ways.{Ways}
use Rattle.sx_forest.specs.declared.ways.Ways.TheVariants.{Nothing}
use Rattle.sx_forest.specs.Tallies.{ways_at, ways_of}
use Rattle.sx_forest.specs.Rows.{IsNextRow, IsIn, IsStretchRow, Spreads, entries_at, stretch_in}
use Rattle.sx_forest.specs.Rows.{stretch_at, row_in, tally_at, symbol_count, AreStretches, AreRows}
use Rattle.sx_forest.specs.KeptRows.{symbols_by, AreStretchesKept, AllKept, AreRowsReady, IsClear}
use Rattle.sx_forest.specs.KeptRows.{front_of, IsStretchJoined, IsWider, AreWider, IsLonger}
use Rattle.sx_forest.proofs.Pushing.{got_before, got_last, got_cases, longer_pushed}
use Rattle.sx_forest.proofs.RowWays.{none_after, way_there, empty_none}
use Rattle.sx_forest.proofs.Filling.{stretches_on}
use Rattle.sx_forest.proofs.Keeping as keeping

-- what is shown, as it is read
abbrev pub basis_tokens : Basis → List Token
basis_tokens basis = tokens_of basis.grammar.now basis.shown.now

filled : (m k : ℕ) → ways_at (replicate m Nothing) k ≡ no_way
filled zero k = refl
filled (suc m) zero = refl
filled (suc m) (suc k) = filled m k

-- a row that is cut or filled up has the ways that it had
ways_resized : (ws : List Ways) (n m k : ℕ) → k < n → ways_at (take n ws ++ replicate m Nothing) k ≡ ways_at ws k
ways_resized ws zero m k low = absurd (omega arith)
ways_resized [] (suc n) m k low = filled m k
ways_resized (w ∷ ws) (suc n) m zero low = refl
ways_resized (w ∷ ws) (suc n) m (suc k) low = ways_resized ws n m k (omega arith)

pub begun_kept : (old new : Row) (first m : ℕ) → first < old.end → new.end ≡ old.end → new.ways ≡ take (old.end - first) old.ways ++ replicate m Nothing →
    (p : ℕ) → first ≤ p → ways_of new p ≡ ways_of old p
begun_kept old new first m low e more p after = by_order (cases_lt p old.end)
  where
    by_order : (p < old.end) ⊎ (old.end ≤ p) → ways_of new p ≡ ways_of old p
    by_order (inr past) = none_after new p (omega arith) ∙ sym (none_after old p past)
    by_order (inl under) =
        let n : new.end - 1 - p ≡ old.end - 1 - p = omega arith in
        way_there new p (omega arith) ∙ (ap (λ k. ways_at new.ways k) n ∙ (ap (λ l. ways_at l (old.end - 1 - p)) more ∙
        (ways_resized old.ways (old.end - first) m (old.end - 1 - p) (omega arith) ∙ sym (way_there old p under))))

-- a row that has none from a place on may begin there
pub emptied_kept : (old new : Row) (first : ℕ) → (old.ways ≡ []) ⊎ (old.end ≤ first) → new.ways ≡ [] → (p : ℕ) → first ≤ p → ways_of new p ≡ ways_of old p
emptied_kept old new first (inl none) empty p after = empty_none new p empty ∙ sym (empty_none old p none)
emptied_kept old new first (inr past) empty p after = empty_none new p empty ∙ sym (none_after old p (omega arith))

module _ (g : Grammar) (tokens : List Token) (lists : List (Vec Entry)) (symbol : Option Symbol) (to : ℕ) (old_places new_places : Stretch) (wider : IsWider to old_places new_places)
    (next grown : ℕ → Tally) (old new : Row) (made : IsStretchRow g tokens lists symbol to old_places next (ways_of old))
    (longer : IsLonger g tokens lists symbol grown (front_of old_places new_places) old new) where
  none_in_front : (p : ℕ) → p < new_places.first → p < old_places.first → ways_of new p ≡ no_way
  none_in_front p early before = longer.none p early before (made.outside p (λ low is. let h = is.0 in omega arith))

  -- a longer row has the ways that it had
  pub longer_kept : (p : ℕ) → (old_places.first ≤ p) ⊎ (to < p) → ways_of new p ≡ ways_of old p
  longer_kept p (inl after) = longer.kept p after
  longer_kept p (inr past) = by_order (cases_lt p old_places.first) (cases_lt p new_places.first)
    where
      by_order : (p < old_places.first) ⊎ (old_places.first ≤ p) → (p < new_places.first) ⊎ (new_places.first ≤ p) → ways_of new p ≡ ways_of old p
      by_order (inr after) h = longer.kept p after
      by_order (inl before) (inl early) = none_in_front p early before ∙ sym (made.outside p (λ low is. omega arith))
      by_order (inl before) (inr from) = let near = (wider.near (omega arith)).0 in absurd (omega arith)

  -- and is the row of the wider stretch
  pub row_wider : (other : Stretch) → Spreads g tokens lists symbol to old_places other → ((p : ℕ) → IsIn other p → grown p ≡ next p) → ((p : ℕ) → to < p → grown p ≡ next p) →
      IsStretchRow g tokens lists symbol to new_places grown (ways_of new)
  row_wider other spread same past = record {
    each = λ p low is. by_place p low is (cases_lt p old_places.first);
    outside = λ p out. by_side p out (cases_lt p old_places.first) (cases_lt p new_places.first);
  }
    where
      over : IsStretchRow g tokens lists symbol to old_places grown (ways_of old)
      over = keeping.row_over g tokens symbol to old_places lists other next grown (ways_of old) spread same past made

      by_place : (p : ℕ) → p ≤ to → IsIn new_places p → (p < old_places.first) ⊎ (old_places.first ≤ p) → IsNextRow g tokens (entries_at lists p) symbol p grown (ways_of new p)
      by_place p low is (inl before) = longer.each p (is.0, before)
      by_place p low is (inr after) =
          subst (λ t. IsNextRow g tokens (entries_at lists p) symbol p grown t) (sym (longer.kept p after)) (over.each p low (after, subst (λ e. p < e) wider.end is.1))

      by_side : (p : ℕ) → (p ≤ to → IsIn new_places p → ⊥) → (p < old_places.first) ⊎ (old_places.first ≤ p) → (p < new_places.first) ⊎ (new_places.first ≤ p) → ways_of new p ≡ no_way
      by_side p out (inl before) (inl early) = none_in_front p early before
      by_side p out (inl before) (inr from) =
          let near = wider.near (omega arith) in let a = near.0 in let b = near.1 in
          absurd (out (omega arith) (from, subst (λ e. p < e) (sym wider.end) (omega arith)))
      by_side p out (inr after) h =
          let first = wider.first in
          longer.kept p after ∙ made.outside p (λ low is. out low (omega arith, subst (λ e. p < e) (sym wider.end) is.1))

pub none_of_length : {X : Type 0} (xs : List X) → length xs ≡ 0 → xs ≡ []
none_of_length [] e = refl
none_of_length (x ∷ xs) e = absurd (omega arith)

-- the wider rows so far, and those that are left
pub record AreWideTo (g : Grammar) (tokens : List Token) (lists : List (Vec Entry)) (head : Head) (count to : ℕ) (old new : List Stretch) (rows wide left : List Row) : Type 0 where
  pub long : length wide + length left ≡ length rows
  pub rest : (i : ℕ) → slice_get left i ≡ slice_get rows (length wide + i)
  pub first : 0 < length wide → tally_at wide 0 ≡ tally_at rows 0
  pub each : (j : ℕ) → j + 1 < length wide → IsStretchRow g tokens lists (next_symbol g head (count - j - 1)) to (stretch_at new (count - j - 1)) (tally_at wide j) (tally_at wide (j + 1))
  pub kept : (j : ℕ) → j < length wide → (p : ℕ) → ((stretch_at old (count - j)).first ≤ p) ⊎ (to < p) → tally_at wide j p ≡ tally_at rows j p

pub wide_none : (g : Grammar) (tokens : List Token) (lists : List (Vec Entry)) (head : Head) (count to : ℕ) (old new : List Stretch) (rows : List Row) →
    AreWideTo g tokens lists head count to old new rows [] rows
wide_none g tokens lists head count to old new rows = record {
  long = omega arith;
  rest = λ i. (let e : i ≡ 0 + i = omega arith in ap (slice_get rows) e);
  first = λ low. absurd (omega arith);
  each = λ j low. absurd (omega arith);
  kept = λ j low. absurd (omega arith);
}

module _ (g : Grammar) (tokens : List Token) (lists : List (Vec Entry)) (kept : Kept) (is : AreStretchesKept g tokens lists kept) (new : List Stretch)
    (wider : (dot : ℕ) → 0 < dot → dot < symbols_by g kept.head → IsWider kept.to (stretch_at kept.stretches.items dot) (stretch_at new dot)) where
  abbrev count : ℕ
  count = symbols_by g kept.head

  abbrev Wide : List Row → List Row → Type 0
  Wide = AreWideTo g tokens lists kept.head count kept.to kept.stretches.items new kept.rows.items

  module _ (wide rest more left : List Row) (x r : Row) (so : Wide wide rest) (taken : rest ≡ x ∷ left) (pushed : more ≡ wide ++ r ∷ [])
      (alone : length wide ≡ 0 → r ≡ x)
      (longer : (n : ℕ) → length wide ≡ suc n → IsLonger g tokens lists (next_symbol g kept.head (count - n - 1)) (tally_at wide n)
      (front_of (stretch_at kept.stretches.items (count - n - 1)) (stretch_at new (count - n - 1))) x r) where
    here : slice_get kept.rows.items (length wide) ≡ Some x
    here = (let e : length wide ≡ length wide + 0 = omega arith in ap (slice_get kept.rows.items) e) ∙ (sym (so.rest 0) ∙ ap (λ l. slice_get l 0) taken)

    before : (j : ℕ) → j < length wide → tally_at more j ≡ tally_at wide j
    before j low = ap (λ l. tally_at l j) pushed ∙ ap row_in (got_before wide (r ∷ []) j low)

    newest : (j : ℕ) → length wide ≡ j → tally_at more j ≡ ways_of r
    newest j e = ap (λ l. tally_at l j) pushed ∙ (ap (λ k. tally_at (wide ++ r ∷ []) k) (sym e) ∙ ap row_in (got_last wide r))

    old_row : (j : ℕ) → length wide ≡ j → tally_at kept.rows.items j ≡ ways_of x
    old_row j e = ap (λ k. tally_at kept.rows.items k) (sym e) ∙ ap row_in here

    within : length wide < length kept.rows.items
    within = slice_get_within kept.rows.items (length wide) x here

    module _ (n : ℕ) (at : length wide ≡ suc n) where
      low_here : n + 1 < count
      low_here = omega (arith, within, at, is.are.long)

      dot_wider : IsWider kept.to (stretch_at kept.stretches.items (count - n - 1)) (stretch_at new (count - n - 1))
      dot_wider = wider (count - n - 1) (omega (arith, low_here)) (omega (arith, low_here))

      made : IsStretchRow g tokens lists (next_symbol g kept.head (count - n - 1)) kept.to (stretch_at kept.stretches.items (count - n - 1)) (tally_at kept.rows.items n) (ways_of x)
      made =
          subst (λ w. IsStretchRow g tokens lists (next_symbol g kept.head (count - n - 1)) kept.to (stretch_at kept.stretches.items (count - n - 1)) (tally_at kept.rows.items n) w)
          (old_row (n + 1) (omega (arith, at))) (is.are.each n (omega (arith, low_here)))

      past_same : (p : ℕ) → kept.to < p → tally_at wide n p ≡ tally_at kept.rows.items n p
      past_same p past = so.kept n (omega (arith, at)) p (inr past)

      abbrev Made : Type 0
      Made = IsStretchRow g tokens lists (next_symbol g kept.head (count - n - 1)) kept.to (stretch_at new (count - n - 1)) (tally_at wide n) (ways_of r)

      last_made : n ≡ 0 → Made
      last_made none =
          let all : Stretch = record { first = 0; end = kept.to + 1 } in
          let same : tally_at wide n ≡ tally_at kept.rows.items n =
          subst (λ m. tally_at wide m ≡ tally_at kept.rows.items m) (sym none) (so.first (omega (arith, at))) in
          row_wider g tokens lists (next_symbol g kept.head (count - n - 1)) kept.to _ _ dot_wider (tally_at kept.rows.items n) (tally_at wide n) x r made (longer n at)
          all (λ place end there leads high. (omega arith, omega arith)) (λ p there. ap (λ f. f p) same) past_same

      inner_made : 0 < n → Made
      inner_made some =
          let up : suc (count - n - 1) ≡ count - n = omega (arith, low_here) in
          let spread : Spreads g tokens lists (next_symbol g kept.head (count - n - 1)) kept.to (stretch_at kept.stretches.items (count - n - 1)) (stretch_at kept.stretches.items (count - n)) =
          subst (λ m. Spreads g tokens lists (next_symbol g kept.head (count - n - 1)) kept.to (stretch_at kept.stretches.items (count - n - 1)) (stretch_at kept.stretches.items m))
          up (is.spread (count - n - 1) (omega (arith, low_here)) (omega (arith, low_here))) in
          row_wider g tokens lists (next_symbol g kept.head (count - n - 1)) kept.to _ _ dot_wider (tally_at kept.rows.items n) (tally_at wide n) x r made (longer n at)
          (stretch_at kept.stretches.items (count - n)) spread (λ p there. so.kept n (omega (arith, at)) p (inl there.0)) past_same

      made_here : (n ≡ 0) ⊎ (0 < n) → Made
      made_here (inl none) = last_made none
      made_here (inr some) = inner_made some

    none_or_some : (n : ℕ) → (n ≡ 0) ⊎ (0 < n)
    none_or_some zero = inl refl
    none_or_some (suc n) = inr (omega arith)

    more_long : length more ≡ length wide + 1
    more_long = longer_pushed wide more r pushed

    first_on : (n : ℕ) → length wide ≡ n → tally_at more 0 ≡ tally_at kept.rows.items 0
    first_on zero at = newest 0 at ∙ (ap ways_of (alone at) ∙ sym (old_row 0 at))
    first_on (suc n) at = before 0 (omega (arith, at)) ∙ so.first (omega (arith, at))

    kept_last : (n : ℕ) → length wide ≡ n → (p : ℕ) → ((stretch_at kept.stretches.items (count - n)).first ≤ p) ⊎ (kept.to < p) → ways_of r p ≡ ways_of x p
    kept_last zero at p h = ap (λ y. ways_of y p) (alone at)
    kept_last (suc n) at p h =
        let e : count - suc n ≡ count - n - 1 = omega arith in
        longer_kept g tokens lists (next_symbol g kept.head (count - n - 1)) kept.to _ _ (dot_wider n at) (tally_at kept.rows.items n) (tally_at wide n) x r (made n at) (longer n at) p
        (subst (λ m. ((stretch_at kept.stretches.items m).first ≤ p) ⊎ (kept.to < p)) e h)

    each_on : (j : ℕ) → (j + 1 < length wide) ⊎ (length wide ≤ j + 1) → j + 1 < length more →
        IsStretchRow g tokens lists (next_symbol g kept.head (count - j - 1)) kept.to (stretch_at new (count - j - 1)) (tally_at more j) (tally_at more (j + 1))
    each_on j (inl low) within = rw (before j (omega arith), before (j + 1) low) (so.each j low)
    each_on j (inr high) within =
        let at : length wide ≡ suc j = omega (arith, more_long) in
        rw (before j (omega (arith, at)), newest (j + 1) (omega (arith, at))) (made_here j at (none_or_some j))

    kept_on : (j : ℕ) → (j < length wide) ⊎ (length wide ≤ j) → j < length more → (p : ℕ) → ((stretch_at kept.stretches.items (count - j)).first ≤ p) ⊎ (kept.to < p) →
        tally_at more j p ≡ tally_at kept.rows.items j p
    kept_on j (inl low) within p h = ap (λ f. f p) (before j low) ∙ so.kept j low p h
    kept_on j (inr high) within p h =
        let at : length wide ≡ j = omega (arith, more_long) in
        ap (λ f. f p) (newest j at) ∙ (kept_last j at p h ∙ sym (ap (λ f. f p) (old_row j at)))

    -- one more row
    pub wide_on : Wide more left
    wide_on = record {
      long = (let a : length rest ≡ suc (length left) = ap length taken in omega (arith, more_long, so.long));
      rest = λ i. let e : length wide + suc i ≡ length more + i = omega (arith, more_long) in
          (ap (λ l. slice_get l (suc i)) (sym taken) ∙ so.rest (suc i)) ∙ ap (slice_get kept.rows.items) e;
      first = λ low. first_on (length wide) refl;
      each = λ j low. each_on j (cases_lt (j + 1) (length wide)) low;
      kept = λ j low. kept_on j (cases_lt j (length wide)) low;
    }

  -- all rows are wide
  pub wide_all : (wide : List Row) → Wide wide [] → AreRows g tokens lists kept.head count (count - 1) kept.to new wide
  wide_all wide so = record {
    long = (let l = so.long in let m = is.are.long in omega (arith, l, m));
    last = (let l = so.long in let m = is.are.long in rw (so.first (omega (arith, l, m))) is.are.last);
    each = λ k low. let l = so.long in let m = is.are.long in so.each k (omega (arith, l, m, low));
  }

-- the wider stretches so far, and the places that are new at the last
pub record AreWiderTo (g : Grammar) (tokens : List Token) (lists : List (Vec Entry)) (head : Head) (from to : ℕ) (old : List Stretch) (dot : ℕ) (all : List Stretch) (front : Stretch) : Type 0 where
  pub ahead : 0 < dot
  pub long : length all ≡ dot
  pub are : AreWider g tokens lists head dot from to old all
  pub new : (p : ℕ) → IsIn (stretch_at all (dot - 1)) p → IsIn front p ⊎ ((0 < dot - 1) × IsIn (stretch_at old (dot - 1)) p)

pub wider_first : (g : Grammar) (tokens : List Token) (lists : List (Vec Entry)) (head : Head) (from to : ℕ) (old all : List Stretch) (new : Stretch) →
    new ≡ record { first = from; end = from + 1 } → all ≡ new ∷ [] → AreWiderTo g tokens lists head from to old 1 all new
wider_first g tokens lists head from to old all new e alone = rw (alone, e) (record {
  ahead = omega arith;
  long = refl;
  are = record {
    wider = λ dot low high. absurd (omega arith);
    spread = record { first = (omega arith, omega arith); each = λ dot low. absurd (omega arith) };
  };
  new = λ p is. inl is;
})

module _ (g : Grammar) (tokens : List Token) (lists : List (Vec Entry)) (kept : Kept) (is : AreStretchesKept g tokens lists kept) (from n : ℕ) (low : suc n < symbols_by g kept.head)
    (all more : List Stretch) (new reached own_reached own : Stretch) (so : AreWiderTo g tokens lists kept.head from kept.to kept.stretches.items (suc n) all new)
    (spread : Spreads g tokens lists (next_symbol g kept.head n) kept.to new reached) (end : own_reached.end ≤ kept.to + 1)
    (same : (p : ℕ) → p ≤ kept.to → IsIn reached p → IsIn own_reached p)
    (joined : IsStretchJoined (stretch_at kept.stretches.items (suc n)) own_reached own) (pushed : more ≡ all ++ own ∷ []) where
  old_in : (p : ℕ) → IsIn (stretch_at kept.stretches.items (suc n)) p → IsIn own p
  old_in p there = let a = joined.first in let b = there.0 in (omega arith, subst (λ e. p < e) (sym joined.end) there.1)

  spread_own : Spreads g tokens lists (next_symbol g kept.head n) kept.to (stretch_at all n) own
  spread_own place last there leads high = by_side (so.new place (let e : n ≡ suc n - 1 = omega arith in subst (λ d. IsIn (stretch_at all d) place) e there))
    where
      by_side : IsIn new place ⊎ ((0 < suc n - 1) × IsIn (stretch_at kept.stretches.items (suc n - 1)) place) → IsIn own last
      by_side (inl h) = joined.other last (same last high (spread place last h leads high))
      by_side (inr h) =
          let e : suc n - 1 ≡ n = omega arith in
          let some : 0 < n = (let a = h.0 in omega arith) in
          old_in last (is.spread n some low place last (subst (λ d. IsIn (stretch_at kept.stretches.items d) place) e h.1) leads high)

  own_wider : IsWider kept.to (stretch_at kept.stretches.items (suc n)) own
  own_wider = record {
    first = joined.first;
    end = joined.end;
    near = λ less. let h = joined.near less in let a = h.0 in let b = h.1 in (omega (arith, a, end), omega (arith, a, b));
  }

  earlier : (k : ℕ) → k < suc n → stretch_at more k ≡ stretch_at all k
  earlier k h = ap (λ l. stretch_at l k) pushed ∙ ap stretch_in (got_before all (own ∷ []) k (omega (arith, so.long)))

  own_last : stretch_at more (suc n) ≡ own
  own_last = ap (λ l. stretch_at l (suc n)) pushed ∙ (ap (λ k. stretch_at (all ++ own ∷ []) k) (sym so.long) ∙ ap stretch_in (got_last all own))

  wider_on : (dot : ℕ) → (dot < suc n) ⊎ (suc n ≤ dot) → 0 < dot → dot < suc n + 1 → IsWider kept.to (stretch_at kept.stretches.items dot) (stretch_at more dot)
  wider_on dot (inl h) some high = rw (earlier dot h) (so.are.wider dot some h)
  wider_on dot (inr h) some high =
      let e : suc n ≡ dot = omega arith in
      subst (λ d. IsWider kept.to (stretch_at kept.stretches.items d) (stretch_at more d)) e (rw own_last own_wider)

  new_on : (p : ℕ) → (p < (stretch_at kept.stretches.items (suc n)).first) ⊎ ((stretch_at kept.stretches.items (suc n)).first ≤ p) → IsIn own p →
      IsIn (front_of (stretch_at kept.stretches.items (suc n)) own) p ⊎ ((0 < suc n) × IsIn (stretch_at kept.stretches.items (suc n)) p)
  new_on p (inl early) there = inl (there.0, early)
  new_on p (inr late) there = inr (omega arith, (late, subst (λ e. p < e) joined.end there.1))

  -- one more stretch
  pub wider_to_on : AreWiderTo g tokens lists kept.head from kept.to kept.stretches.items (suc n + 1) more (front_of (stretch_at kept.stretches.items (suc n)) own)
  wider_to_on = record {
    ahead = omega arith;
    long = omega (arith, longer_pushed all more own pushed, so.long);
    are = record {
      wider = λ dot some high. wider_on dot (cases_lt dot (suc n)) some high;
      spread = stretches_on g tokens lists kept.head n from kept.to all more own so.long so.are.spread pushed spread_own;
    };
    new = λ p there.
        let e : suc n + 1 - 1 ≡ suc n = omega arith in
        let at : IsIn own p = subst (λ s. IsIn s p) (ap (stretch_at more) e ∙ own_last) there in
        subst (λ d. IsIn (front_of (stretch_at kept.stretches.items (suc n)) own) p ⊎ ((0 < d) × IsIn (stretch_at kept.stretches.items d) p)) (sym e)
        (new_on p (cases_lt p (stretch_at kept.stretches.items (suc n)).first) at);
  }

-- what is ready is kept
pub ready_kept : (g : Grammar) (tokens : List Token) (lists : List (Vec Entry)) (from : ℕ) (kept : Kept) → AreRowsReady g tokens lists from kept → AreStretchesKept g tokens lists kept
ready_kept g tokens lists from kept ready = record { spread = λ dot some low. ready.spread.each dot low; are = ready.are }

-- and stays so where an entry is put at a place that it does not have
pub kept_put : (g : Grammar) (tokens : List Token) (old new : List (Vec Entry)) (place : ℕ) (kept : Kept) → ((p : ℕ) → (p ≡ place → ⊥) → entries_at new p ≡ entries_at old p) → IsClear place kept →
    AreStretchesKept g tokens old kept → AreStretchesKept g tokens new kept
kept_put g tokens old new place kept others clear is = record {
  spread = λ dot some low. keeping.spreads_in g tokens (next_symbol g kept.head dot) kept.to (stretch_at kept.stretches.items dot) old new (stretch_at kept.stretches.items (suc dot))
      (same dot some) (is.spread dot some low);
  are = record {
    long = is.are.long;
    last = is.are.last;
    each = λ k low. let n = symbols_by g kept.head - k - 1 in
        keeping.row_in g tokens (next_symbol g kept.head n) kept.to (stretch_at kept.stretches.items n) old new (tally_at kept.rows.items k) (tally_at kept.rows.items (k + 1))
        (same n (omega (arith, low))) (is.are.each k low);
  };
}
  where
    same : (dot : ℕ) → 0 < dot → (p : ℕ) → IsIn (stretch_at kept.stretches.items dot) p → entries_at new p ≡ entries_at old p
    same dot some p there = others p (λ e. clear dot some (subst (λ q. IsIn (stretch_at kept.stretches.items dot) q) e there))

-- the stretches with another one at the first symbol
abbrev pub begun : Stretch → List Stretch → List Stretch
begun s [] = s ∷ []
begun s (x ∷ xs) = s ∷ xs

pub begun_first : (s : Stretch) (xs : List Stretch) → stretch_at (begun s xs) 0 ≡ s
begun_first s [] = refl
begun_first s (x ∷ xs) = refl

begun_later : (s : Stretch) (xs : List Stretch) (dot : ℕ) → 0 < dot → stretch_at (begun s xs) dot ≡ stretch_at xs dot
begun_later s xs zero low = absurd (omega arith)
begun_later s [] (suc dot) low = refl
begun_later s (x ∷ xs) (suc dot) low = refl

module _ (g : Grammar) (tokens : List Token) (lists : List (Vec Entry)) (from : ℕ) (kept : Kept) (ready : AreRowsReady g tokens lists from kept) where
  abbrev number : ℕ
  number = symbols_by g kept.head

  abbrev place_of : Stretch
  place_of = record { first = from; end = from + 1 }

  pub first_spread : AreStretches g tokens lists kept.head number from kept.to (begun place_of kept.stretches.items)
  first_spread = record {
    first = rw (begun_first place_of kept.stretches.items) (omega arith, omega arith);
    each = by_dot;
  }
    where
      by_dot : (dot : ℕ) → suc dot < number → Spreads g tokens lists (next_symbol g kept.head dot) kept.to (stretch_at (begun place_of kept.stretches.items) dot) (stretch_at (begun place_of kept.stretches.items) (suc dot))
      by_dot zero low = rw (begun_first place_of kept.stretches.items, begun_later place_of kept.stretches.items 1 (omega arith))
          (λ place end is leads high. ready.spread.each 0 low place end
          (let e : from ≡ place = (let a = is.0 in let b = is.1 in omega arith) in subst (λ p. IsIn (stretch_at kept.stretches.items 0) p) e ready.spread.first) leads high)
      by_dot (suc dot) low = rw (begun_later place_of kept.stretches.items (suc dot) (omega arith), begun_later place_of kept.stretches.items (suc (suc dot)) (omega arith))
          (ready.spread.each (suc dot) low)

  pub same_rows : AreRows g tokens lists kept.head number (number - 1) kept.to (begun place_of kept.stretches.items) kept.rows.items
  same_rows = record {
    long = ready.are.long;
    last = ready.are.last;
    each = λ k low. rw (begun_later place_of kept.stretches.items (number - k - 1) (omega (arith, low))) (ready.are.each k low);
  }

-- a head with no first symbol has none
pub no_symbols : (g : Grammar) (head : Head) → next_symbol g head 0 ≡ None → symbols_by g head ≡ 0
no_symbols g head none = by_production (production_of g head) none
  where
    by_production : (o : Option Production) → symbol_after o 0 ≡ None → symbol_count o ≡ 0
    by_production None e = refl
    by_production (Some p) e = by_list p.symbols e
      where
        by_list : (xs : List Symbol) → slice_get xs 0 ≡ None → length xs ≡ 0
        by_list [] e = refl
        by_list (x ∷ xs) e = absurd (none-some x (sym e))

-- and one with a first symbol has some
pub some_symbols : (g : Grammar) (head : Head) → (next_symbol g head 0 ≡ None → ⊥) → 0 < symbols_by g head
some_symbols g head some = by_production (production_of g head) some
  where
    by_production : (o : Option Production) → (symbol_after o 0 ≡ None → ⊥) → 0 < symbol_count o
    by_production None e = absurd (e refl)
    by_production (Some p) e = by_list p.symbols e
      where
        by_list : (xs : List Symbol) → (slice_get xs 0 ≡ None → ⊥) → 0 < length xs
        by_list [] e = absurd (e refl)
        by_list (x ∷ xs) e = omega arith

pub none_mapped : {A B : Type 0} (f : A → B) (o : Option A) → option_map f o ≡ None → o ≡ None
none_mapped f None e = refl
none_mapped f (Some x) e = absurd (none-some (f x) (sym e))

-- what is kept is still so after an entry is put
pub all_kept_put : (g : Grammar) (tokens : List Token) (old new : List (Vec Entry)) (place : ℕ) (before after : List Kept) → ((p : ℕ) → (p ≡ place → ⊥) → entries_at new p ≡ entries_at old p) →
    ((i : ℕ) (k : Kept) → slice_get after i ≡ Some k → (slice_get before i ≡ Some k) × IsClear place k) → AllKept g tokens old before → AllKept g tokens new after
all_kept_put g tokens old new place before after others left all i k at = let h = left i k at in kept_put g tokens old new place k others h.1 (all i k h.0)

-- so is one more
pub all_kept_more : (g : Grammar) (tokens : List Token) (lists : List (Vec Entry)) (before after : List Kept) (k : Kept) → after ≡ before ++ k ∷ [] → AllKept g tokens lists before →
    AreStretchesKept g tokens lists k → AllKept g tokens lists after
all_kept_more g tokens lists before after k e all is i x at =
    ⊎_elim (λ h. all i x h.1) (λ h. subst (AreStretchesKept g tokens lists) h.1 is) (got_cases before k x i (subst (λ l. slice_get l i ≡ Some x) e at))

pub none_kept : (g : Grammar) (tokens : List Token) (lists : List (Vec Entry)) (all : List Kept) → all ≡ [] → AllKept g tokens lists all
none_kept g tokens lists all e i k at = absurd (none-some k (subst (λ l. slice_get l i ≡ Some k) e at))

-- past the last stretch there is no place
pub no_stretch : (xs : List Stretch) (dot p : ℕ) → length xs ≤ dot → IsIn (stretch_at xs dot) p → ⊥
no_stretch [] dot p low is = let b = is.1 in omega arith
no_stretch (x ∷ xs) zero p low is = omega arith
no_stretch (x ∷ xs) (suc dot) p low is = no_stretch xs dot p (omega arith) is

pub not_some : {A : Type 0} (o : Option A) → is_some o ≡ false → o ≡ None
not_some None e = refl
not_some (Some x) e = absurd (false≢true (sym e))

-- one of them in place of another
pub all_kept_set : (g : Grammar) (tokens : List Token) (lists : List (Vec Entry)) (before : List Kept) (i : ℕ) (k : Kept) → AllKept g tokens lists before → AreStretchesKept g tokens lists k →
    AllKept g tokens lists (set before i k)
all_kept_set g tokens lists [] i k all is j x at = absurd (none-some x at)
all_kept_set g tokens lists (y ∷ ys) zero k all is zero x at = subst (AreStretchesKept g tokens lists) (same_Some k x at) is
all_kept_set g tokens lists (y ∷ ys) zero k all is (suc j) x at = all (suc j) x at
all_kept_set g tokens lists (y ∷ ys) (suc i) k all is zero x at = all 0 x at
all_kept_set g tokens lists (y ∷ ys) (suc i) k all is (suc j) x at = all_kept_set g tokens lists ys i k (λ n z h. all (suc n) z h) is j x at

pub on_any : {T E P : Type 0} (r : Result T E) → P → OnOk r P
on_any (Ok x) p = p
on_any (Err e) p = tt

-- the one that stands at a place
pub found_same : (xs : List Kept) (i : ℕ) (x y : Kept) → y ≡ get_or xs i y → slice_get xs i ≡ Some x → y ≡ x
found_same xs i x y e at = e ∙ same_Some (get_or xs i y) x (sym (slice_get-get_or xs i y (slice_get_within xs i x at)) ∙ at)
