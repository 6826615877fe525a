-- Entries by which readings go over a part.
use Rattle.std.proofs.Common.{◌≡◌, ℕ, suc, ◌<◌, ◌≤◌, List, ◌⊎◌, inl, inr, Some, refl, sym, subst, ap, ◌∙◌, length, arith}
use Rattle.std.specs.Prelude.{None}
use Rattle.std.specs.List.{slice_get}
use Rattle.std.proofs.lemmas.Bool.{cases_lt}
use Rattle.std.proofs.lemmas.Option.{slice_get_within, same_Some}
use Rattle.sx_grammar.specs.Grammar.{Grammar}
use Rattle.sx_grammar.specs.Tally.{Tally, no_way, one_way, more_ways, plus, times, IsTally}
use Rattle.sx_forest.specs.declared.entry.Entry.{Entry}
use Rattle.sx_forest.specs.Tallies.{tally_of}
use Rattle.sx_forest.specs.Rows.{IsEntryTally, SumTo, sum_none, sum_more}
use Rattle.sx_forest.specs.Forests.{depth_in, IsMore, IsUsableEntry, IsFirstUsable, IsForkOf}

abbrev IsSome : Tally → Type 0
IsSome no_way = ⊥
IsSome (one_way d) = Unit {0}
IsSome (more_ways d) = Unit {0}

-- there are none, or there are some
pub none_or : (t : Tally) → (t ≡ no_way) ⊎ (t ≡ no_way → ⊥)
none_or no_way = inl refl
none_or (one_way d) = inr (λ e. subst IsSome e tt)
none_or (more_ways d) = inr (λ e. subst IsSome e tt)

-- where there are some, one of them has the greatest depth
pub deepest_of : {A : Type 0} (P : A → Type 0) (depth : A → ℕ) (t : Tally) → IsTally P depth t → (t ≡ no_way → ⊥) → (a : A) × P a × (depth a ≡ depth_in t)
deepest_of P depth no_way h some = absurd (some refl)
deepest_of P depth (one_way d) h some = (h.0, h.1, h.2)
deepest_of P depth (more_ways d) h some = (h.5.deepest, h.5.holds, h.5.is)

-- and none is deeper
pub bounded_by : {A : Type 0} (P : A → Type 0) (depth : A → ℕ) (t : Tally) → IsTally P depth t → (a : A) → P a → depth a ≤ depth_in t
bounded_by P depth no_way h a p = absurd (h a p)
bounded_by P depth (one_way d) h a p = subst (λ x. depth x ≤ d) (sym (h.3 a p)) (omega (arith, h.2))
bounded_by P depth (more_ways d) h a p = h.5.bound a p

pub times_none : (t : Tally) → times t no_way ≡ no_way
times_none no_way = refl
times_none (one_way d) = refl
times_none (more_ways d) = refl

plus_none : (t : Tally) → plus t no_way ≡ t
plus_none no_way = refl
plus_none (one_way d) = refl
plus_none (more_ways d) = refl

-- where there is more of two after each other, there is more of one of them
pub more_times : (t u : Tally) → IsMore (times t u) → IsMore t ⊎ IsMore u
more_times no_way u h = absurd h
more_times (one_way d) no_way h = absurd h
more_times (one_way d) (one_way e) h = absurd h
more_times (one_way d) (more_ways e) h = inr tt
more_times (more_ways d) u h = inl tt

module _ (g : Grammar) (sort least : ℕ) (next : ℕ → Tally) (entries : List Entry) where
  abbrev Used : Entry → Type 0
  Used e = IsUsableEntry g sort least next e

  abbrev tally : Entry → Tally
  tally e = times (tally_of e.ways) (next e.to)

  -- a usable entry has its tally, and another has none
  used_or : (e : Entry) (u : Tally) → IsEntryTally g sort least next e u → (Used e × (u ≡ tally e)) ⊎ ((Used e → ⊥) × (u ≡ no_way))
  used_or e u (inl h) = by_tally (none_or (tally e))
    where
      by_tally : (tally e ≡ no_way) ⊎ (tally e ≡ no_way → ⊥) → (Used e × (u ≡ tally e)) ⊎ ((Used e → ⊥) × (u ≡ no_way))
      by_tally (inl none) = inr ((λ used. used.1 none), h.1 ∙ none)
      by_tally (inr some) = inl ((h.0, some), h.1)
  used_or e u (inr h) = inr ((λ used. h.0 used.0), h.1)

  -- where a sum is not none, one of the entries is usable
  pub sum_usable : {n : ℕ} {t : Tally} → SumTo g sort least next entries n t → (t ≡ no_way → ⊥) → (i : ℕ) × (e : Entry) × (slice_get entries i ≡ Some e) × Used e
  sum_usable sum_none some = absurd (some refl)
  sum_usable (sum_more {n = n} {t = t} {u = u} e sum at one) some = by_case (used_or e u one) (λ before. sum_usable sum before)
    where
      by_case : (Used e × (u ≡ tally e)) ⊎ ((Used e → ⊥) × (u ≡ no_way)) → ((t ≡ no_way → ⊥) → (i : ℕ) × (e : Entry) × (slice_get entries i ≡ Some e) × Used e) →
          (i : ℕ) × (e : Entry) × (slice_get entries i ≡ Some e) × Used e
      by_case (inl h) before = (n, e, at, h.0)
      by_case (inr h) before = before (λ none. some (ap (λ x. plus t x) h.1 ∙ (plus_none t ∙ none)))

  module _ (i : ℕ) (e : Entry) (at : slice_get entries i ≡ Some e) (used : Used e)
      (only : (j : ℕ) (x : Entry) → slice_get entries j ≡ Some x → Used x → j ≡ i) where
    -- where no other entry is usable, the sum is its tally
    pub alone : {n : ℕ} {t : Tally} → SumTo g sort least next entries n t → (n ≤ i → t ≡ no_way) × (i < n → t ≡ tally e)
    alone sum_none = ((λ low. refl), λ low. absurd (omega arith))
    alone (sum_more {n = n} {t = t} {u = u} x sum there one) = by_case (alone sum) (used_or x u one)
      where
        by_case : (n ≤ i → t ≡ no_way) × (i < n → t ≡ tally e) → (Used x × (u ≡ tally x)) ⊎ ((Used x → ⊥) × (u ≡ no_way)) →
            (suc n ≤ i → plus t u ≡ no_way) × (i < suc n → plus t u ≡ tally e)
        by_case before (inl h) =
            let same : n ≡ i = only n x there h.0 in
            let is : x ≡ e = same_Some x e (sym (subst (λ k. slice_get entries k ≡ Some x) same there) ∙ at) in
            let none : t ≡ no_way = before.0 (omega arith) in
            ((λ low. absurd (omega arith)), λ low. ap (λ z. plus z u) none ∙ (h.1 ∙ ap tally is))
        by_case before (inr h) =
            let same : plus t u ≡ t = ap (λ z. plus t z) h.1 ∙ plus_none t in
            ((λ low. same ∙ before.0 (omega arith)), λ low. same ∙ by_order low (cases_lt i n))
          where
            by_order : i < suc n → (i < n) ⊎ (n ≤ i) → t ≡ tally e
            by_order low (inl less) = before.1 less
            by_order low (inr high) =
                let here : n ≡ i = omega arith in
                let is : x ≡ e = same_Some x e (sym (subst (λ k. slice_get entries k ≡ Some x) here there) ∙ at) in
                absurd (h.0 (subst Used (sym is) used))

  -- where readings do not part at a part, no other entry is usable
  pub only_usable : (i : ℕ) (e : Entry) → IsFirstUsable g sort least next entries 0 (Some (i, e)) → IsForkOf g sort least next entries i e None →
      (j : ℕ) (x : Entry) → slice_get entries j ≡ Some x → Used x → j ≡ i
  only_usable i e first fork j x there used = by_order (cases_lt j i) (cases_lt i j)
    where
      by_order : (j < i) ⊎ (i ≤ j) → (i < j) ⊎ (j ≤ i) → j ≡ i
      by_order (inl low) h = absurd (first.3 j x (omega arith) low there used)
      by_order (inr high) (inl up) = absurd (fork.1 j x up there used)
      by_order (inr high) (inr low) = omega arith

  -- and where there is more than one reading, there is more than one of the rest
  pub goes_on : (t : Tally) (i : ℕ) (e : Entry) → SumTo g sort least next entries (length entries) t → IsMore t →
      IsFirstUsable g sort least next entries 0 (Some (i, e)) → IsForkOf g sort least next entries i e None → IsMore (next e.to)
  goes_on t i e sum more first fork = by_part (more_times (tally_of e.ways) (next e.to) (subst IsMore is more))
    where
      is : t ≡ tally e
      is = (alone i e first.1 first.2 (only_usable i e first fork) sum).1 (slice_get_within entries i e first.1)

      by_part : IsMore (tally_of e.ways) ⊎ IsMore (next e.to) → IsMore (next e.to)
      by_part (inl h) = absurd (fork.0 h)
      by_part (inr h) = h
