-- What makers reach.
use Rattle.std.proofs.Common.{◌≡◌, ℕ, zero, suc, ◌+◌, ◌-◌, ◌<◌, ◌≤◌, List, [], ◌∷◌, ◌++◌, ◌⊎◌, inl, inr, ⊎_elim, Some, refl, sym, subst, ap, ◌∙◌, length, set, get_or, Result, Ok, Err, OnOk, IfErr, arith}
use Rattle.std.proofs.Math.Logic.{∥∥₁_elim}
use Rattle.std.specs.Global.{Vec}
use Rattle.std.specs.List.{slice_get}
use Rattle.std.proofs.lemmas.Bool.{cases_lt}
use Rattle.std.proofs.lemmas.Option.{same_Some, slice_get_within, slice_get-get_or}
use Rattle.sx_grammar.specs.Grammar.{Grammar}
use Rattle.sx_grammar.specs.Tally.{Tally, no_way}
use Rattle.sx_forest.specs.declared.entry.Maker.{Maker}
use Rattle.sx_forest.specs.declared.entry.Maker.TheVariants.{Variable}
use Rattle.sx_forest.specs.declared.entry.Entry.{Entry}
use Rattle.sx_forest.specs.declared.reach.Reach.{Reach}
use Rattle.sx_forest.specs.declared.stretch.Stretch.{Stretch}
use Rattle.sx_forest.specs.Tallies.{ways_at, ways_of}
use Rattle.sx_forest.specs.Rows.{FitsPart, IsIn, entries_at}
use Rattle.sx_forest.specs.Reached.{HasReach, reaches_in, reaches_at, AreReached}
use Rattle.sx_forest.specs.Table.{IsEntryPut}
use Rattle.sx_forest.proofs.Pushing.{got_before, got_last}
use Rattle.sx_forest.specs.declared.row.Row.{Row}
use Rattle.sx_forest.proofs.RowWays.{none_after, none_before, way_there}
use Rattle.sx_forest.proofs.Summing.{same_or_not}
use Rattle.sx_forest.proofs.Putting.{got_either}
use Rattle.sx_forest.proofs.Usable.{none_or}

pub unrefuted : {P : Type 0} → ∥ P ∥₁ → (P → ⊥) → ⊥
unrefuted t n = ∥∥₁_elim t (λ x y. absurd x) n

-- a place is in a stretch or not
pub in_or_out : (s : Stretch) (p : ℕ) → IsIn s p ⊎ (IsIn s p → ⊥)
in_or_out s p = by_order (cases_lt p s.first) (cases_lt p s.end)
  where
    by_order : (p < s.first) ⊎ (s.first ≤ p) → (p < s.end) ⊎ (s.end ≤ p) → IsIn s p ⊎ (IsIn s p → ⊥)
    by_order (inl low) h = inr (λ is. let k = is.0 in omega arith)
    by_order (inr high) (inl under) = inl (high, under)
    by_order (inr high) (inr past) = inr (λ is. let k = is.1 in omega arith)

pub in_by : (s : Stretch) (p : ℕ) → ((IsIn s p → ⊥) → ⊥) → IsIn s p
in_by s p h = ⊎_elim (λ is. is) (λ out. absurd (h out)) (in_or_out s p)

-- what is reached still is with one item more
pub reach_pushed : (reaches new : List Reach) (r : Reach) → new ≡ reaches ++ r ∷ [] → (m : Maker) (p : ℕ) → HasReach reaches m p → HasReach new m p
reach_pushed reaches new r e m p h =
    (h.0, h.1, ap (λ l. slice_get l h.0) e ∙ (got_before reaches (r ∷ []) h.0 (slice_get_within reaches h.0 h.1 h.2) ∙ h.2), h.3, h.4)

-- and so is what that item reaches
pub reach_last : (reaches new : List Reach) (r : Reach) → new ≡ reaches ++ r ∷ [] → (p : ℕ) → IsIn r.places p → HasReach new r.maker p
reach_last reaches new r e p is = (length reaches, r, ap (λ l. slice_get l (length reaches)) e ∙ got_last reaches r, refl, is)

set_there : {X : Type 0} (xs : List X) (i : ℕ) (x : X) → i < length xs → slice_get (set xs i x) i ≡ Some x
set_there [] i x low = absurd (omega arith)
set_there (y ∷ ys) zero x low = refl
set_there (y ∷ ys) (suc i) x low = set_there ys i x (omega arith)

set_other : {X : Type 0} (xs : List X) (i j : ℕ) (x : X) → (j ≡ i → ⊥) → slice_get (set xs i x) j ≡ slice_get xs j
set_other [] i j x differ = refl
set_other (y ∷ ys) zero zero x differ = absurd (differ refl)
set_other (y ∷ ys) zero (suc j) x differ = refl
set_other (y ∷ ys) (suc i) zero x differ = refl
set_other (y ∷ ys) (suc i) (suc j) x differ = set_other ys i j x (λ e. differ (ap suc e))

-- what is reached still is where an item's places grow
pub reach_set : (reaches new : List Reach) (index : ℕ) (r x : Reach) → slice_get reaches index ≡ Some r → new ≡ set reaches index x → x.maker ≡ r.maker →
    ((p : ℕ) → IsIn r.places p → IsIn x.places p) → (m : Maker) (p : ℕ) → HasReach reaches m p → HasReach new m p
reach_set reaches new index r x there e maker grows m p h = by_place (same_or_not h.0 index)
  where
    by_place : (h.0 ≡ index) ⊎ (h.0 ≡ index → ⊥) → HasReach new m p
    by_place (inl same) =
        let alike : h.1 ≡ r = same_Some h.1 r (sym h.2 ∙ (ap (slice_get reaches) same ∙ there)) in (
          index,
          x,
          ap (λ l. slice_get l index) e ∙ set_there reaches index x (slice_get_within reaches index r there),
          maker ∙ (ap (λ y. y.maker) (sym alike) ∙ h.3),
          grows p (subst (λ y. IsIn y.places p) alike h.4),
        )
    by_place (inr differ) = (h.0, h.1, ap (λ l. slice_get l h.0) e ∙ (set_other reaches index h.0 x differ ∙ h.2), h.3, h.4)

-- and that item reaches its places
pub reach_there : (reaches new : List Reach) (index : ℕ) (r x : Reach) → slice_get reaches index ≡ Some r → new ≡ set reaches index x → (m : Maker) → x.maker ≡ m →
    (p : ℕ) → IsIn x.places p → HasReach new m p
reach_there reaches new index r x there e m maker p is =
    (index, x, ap (λ l. slice_get l index) e ∙ set_there reaches index x (slice_get_within reaches index r there), maker, is)

-- what is reached from a place that is set
pub reached_there : (lists new : List (Vec Reach)) (place : ℕ) (v : Vec Reach) → place < length lists → new ≡ set lists place v → reaches_at new place ≡ v.items
reached_there lists new place v low e = ap (λ l. reaches_at l place) e ∙ ap reaches_in (set_there lists place v low)

-- and from all places
pub reached_kept : (lists new : List (Vec Reach)) (place : ℕ) (v : Vec Reach) → place < length lists → new ≡ set lists place v →
    ((m : Maker) (p : ℕ) → HasReach (reaches_at lists place) m p → HasReach v.items m p) →
    (q : ℕ) (m : Maker) (p : ℕ) → HasReach (reaches_at lists q) m p → HasReach (reaches_at new q) m p
reached_kept lists new place v low e kept q m p h = by_place (same_or_not q place)
  where
    by_place : (q ≡ place) ⊎ (q ≡ place → ⊥) → HasReach (reaches_at new q) m p
    by_place (inl same) =
        subst (λ z. HasReach (reaches_at new z) m p) (sym same)
        (subst (λ l. HasReach l m p) (sym (reached_there lists new place v low e)) (kept m p (subst (λ z. HasReach (reaches_at lists z) m p) same h)))
    by_place (inr differ) =
        let other : reaches_at new q ≡ reaches_at lists q = ap (λ l. reaches_at l q) e ∙ ap reaches_in (set_other lists place q v differ) in
        subst (λ l. HasReach l m p) (sym other) h

-- where each place reaches what it did, the entries are still reached
pub still_reached : (lists : List (Vec Entry)) (ends starts ends' starts' : List (Vec Reach)) →
    ((q : ℕ) (m : Maker) (p : ℕ) → HasReach (reaches_at ends q) m p → HasReach (reaches_at ends' q) m p) →
    ((q : ℕ) (m : Maker) (p : ℕ) → HasReach (reaches_at starts q) m p → HasReach (reaches_at starts' q) m p) →
    AreReached lists ends starts → AreReached lists ends' starts'
still_reached lists ends starts ends' starts' onward back h = record {
  onward = λ place i e at. onward place e.maker e.to (h.onward place i e at);
  back = λ place i e at. back e.to e.maker place (h.back place i e at);
}

-- one more entry
pub reached_put : (old new : List (Vec Entry)) (ends starts : List (Vec Reach)) (place : ℕ) (e : Entry) → IsEntryPut old new place e → AreReached old ends starts →
    HasReach (reaches_at ends place) e.maker e.to → HasReach (reaches_at starts e.to) e.maker place → AreReached new ends starts
reached_put old new ends starts place e put h to from = record {
  onward = λ p i x at. ⊎_elim (λ k. h.onward p i x k)
      (λ k. subst (λ y. HasReach (reaches_at ends p) y.maker y.to) k.2 (subst (λ q. HasReach (reaches_at ends q) e.maker e.to) (sym k.0) to)) (got_either old new place e put p i x at);
  back = λ p i x at. ⊎_elim (λ k. h.back p i x k)
      (λ k. subst (λ y. HasReach (reaches_at starts y.to) y.maker p) k.2 (subst (λ q. HasReach (reaches_at starts e.to) e.maker q) (sym k.0) from)) (got_either old new place e put p i x at);
}

-- one more entry, or none where memory is lacking
pub reached_added : {E : Type 0} (r : Result (Unit {0}) E) (old new : List (Vec Entry)) (ends starts : List (Vec Reach)) (place : ℕ) (e : Entry) → length new ≡ length old →
    OnOk r (entries_at new place ≡ entries_at old place ++ e ∷ []) → IfErr r (λ _. entries_at new place ≡ entries_at old place) →
    ((p : ℕ) → (p ≡ place → ⊥) → entries_at new p ≡ entries_at old p) → AreReached old ends starts →
    HasReach (reaches_at ends place) e.maker e.to → HasReach (reaches_at starts e.to) e.maker place → AreReached new ends starts
reached_added (Ok u) old new ends starts place e same there failed others h to from =
    reached_put old new ends starts place e (record { same = same; there = there; others = others }) h to from
reached_added (Err x) old new ends starts place e same there failed others h to from = record {
  onward = λ p i y at. h.onward p i y (subst (λ l. slice_get l i ≡ Some y) (alike p) at);
  back = λ p i y at. h.back p i y (subst (λ l. slice_get l i ≡ Some y) (alike p) at);
}
  where
    alike : (p : ℕ) → entries_at new p ≡ entries_at old p
    alike p = ⊎_elim (λ (same_place : p ≡ place). subst (λ q. entries_at new q ≡ entries_at old q) (sym same_place) failed) (λ differ. others p differ) (same_or_not p place)

-- where there cannot be some there are none
none_by : (t : Tally) → ((t ≡ no_way → ⊥) → ⊥) → t ≡ no_way
none_by t h = ⊎_elim (λ e. e) (λ some. absurd (h some)) (none_or t)

-- the ends of entries from places of which all is gone over
pub ends_within : (g : Grammar) (lists : List (Vec Entry)) (ends starts : List (Vec Reach)) → ∥ AreReached lists ends starts ∥₁ → (sort least : ℕ) (stretch grown : Stretch) →
    ((place : ℕ) (m : Maker) (p : ℕ) → IsIn stretch place → HasReach (reaches_at ends place) m p → FitsPart g m sort least → IsIn grown p) →
    (place i : ℕ) (e : Entry) → IsIn stretch place → slice_get (entries_at lists place) i ≡ Some e → FitsPart g e.maker sort least → IsIn grown e.to
ends_within g lists ends starts reached sort least stretch grown each place i e is at fits =
    in_by grown e.to (λ out. unrefuted reached (λ r. out (each place e.maker e.to is (r.onward place i e at) fits)))

-- an entry from another place than those that reach where the row has ways ends where it has none
pub none_beside : (g : Grammar) (lists : List (Vec Entry)) (ends starts : List (Vec Reach)) → ∥ AreReached lists ends starts ∥₁ → (sort least : ℕ) (row : Row) (grown : Stretch) →
    ((n : ℕ) (m : Maker) (p : ℕ) → n < length row.ways → (ways_at row.ways n ≡ no_way → ⊥) → HasReach (reaches_at starts (row.end - (n + 1))) m p → FitsPart g m sort least → IsIn grown p) →
    (place i : ℕ) (e : Entry) → slice_get (entries_at lists place) i ≡ Some e → FitsPart g e.maker sort least → (IsIn grown place → ⊥) → ways_of row e.to ≡ no_way
none_beside g lists ends starts reached sort least row grown each place i e at fits out = by_order (cases_lt e.to row.end) (cases_lt (row.end - 1 - e.to) (length row.ways))
  where
    by_order : (e.to < row.end) ⊎ (row.end ≤ e.to) → (row.end - 1 - e.to < length row.ways) ⊎ (length row.ways ≤ row.end - 1 - e.to) → ways_of row e.to ≡ no_way
    by_order (inr past) h = none_after row e.to past
    by_order (inl low) (inr before) = none_before row e.to (omega arith)
    by_order (inl low) (inl there) =
        let n = row.end - 1 - e.to in
        let same : e.to ≡ row.end - (n + 1) = omega arith in
        let value : ways_of row e.to ≡ ways_at row.ways n = way_there row e.to low in
        none_by (ways_of row e.to) (λ some. unrefuted reached
        (λ r. out (each n e.maker place there (λ none. some (value ∙ none)) (subst (λ t. HasReach (reaches_at starts t) e.maker place) same (r.back place i e at)) fits)))

abbrev pub no_reach : Reach
no_reach = record { maker = Variable 0; places = record { first = 0; end = 0 } }

-- one more item whose places are gone over
pub reaches_on : (g : Grammar) (sort least n : ℕ) (old new : Stretch) (reaches : List Reach) (r : Reach) → slice_get reaches n ≡ Some r → ((p : ℕ) → IsIn old p → IsIn new p) →
    (FitsPart g r.maker sort least → (p : ℕ) → IsIn r.places p → IsIn new p) →
    ((i : ℕ) (x : Reach) (p : ℕ) → i < n → slice_get reaches i ≡ Some x → FitsPart g x.maker sort least → IsIn x.places p → IsIn old p) →
    (i : ℕ) (x : Reach) (p : ℕ) → i < n + 1 → slice_get reaches i ≡ Some x → FitsPart g x.maker sort least → IsIn x.places p → IsIn new p
reaches_on g sort least n old new reaches r there kept here before i x p low at fits is = by_place (cases_lt i n)
  where
    by_place : (i < n) ⊎ (n ≤ i) → IsIn new p
    by_place (inl below) = kept p (before i x p below at fits is)
    by_place (inr above) =
        let same : i ≡ n = omega arith in
        let alike : r ≡ x = same_Some r x (sym there ∙ subst (λ k. slice_get reaches k ≡ Some x) same at) in
        subst (λ y. FitsPart g y.maker sort least → (q : ℕ) → IsIn y.places q → IsIn new q) alike here fits p is

-- what is reached from a place is got there
pub reached_got : (lists : List (Vec Reach)) (place : ℕ) (v : Vec Reach) → place < length lists → v ≡ get_or lists place v → reaches_at lists place ≡ v.items
reached_got lists place v low e = ap reaches_in (slice_get-get_or lists place v low ∙ ap Some (sym e))
