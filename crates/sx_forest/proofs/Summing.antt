use Rattle.std.proofs.Common.{◌≡◌, ℕ, zero, suc, ◌+◌, ◌-◌, ◌<◌, ◌≤◌, ◌⊎◌, inl, inr, refl, sym, ap, ◌∙◌, Option, None, Some, List, max, subst, length, get_or, arith, add-one}
use Rattle.std.proofs.lemmas.Bool.{cases_lt}
use Rattle.std.specs.List.{slice_get}
use Rattle.std.proofs.lemmas.Option.{slice_get-get_or}
use Rattle.sx_grammar.specs.Grammar.{Grammar, Production, production_of}
use Rattle.sx_grammar.specs.Tally.{Tally, no_way, one_way, more_ways, plus, times}
use Rattle.sx_earley.specs.Chart.{IsOfSort}
use Rattle.sx_forest.specs.declared.ways.Ways.TheVariants.{Nothing}
use Rattle.sx_forest.specs.declared.entry.Maker.{Maker}
use Rattle.sx_forest.specs.declared.entry.Maker.TheVariants.{Variable, By}
use Rattle.sx_forest.specs.declared.entry.Entry.{Entry}
use Rattle.sx_forest.specs.Tallies.{tally_of}
use Rattle.sx_forest.specs.Rows.{FitsPart, IsEntryTally, SumTo, sum_more}

abbrev pub no_entry : Entry
no_entry = record { maker = Variable 0; to = 0; ways = Nothing }

-- one more entry
pub sum_on : (g : Grammar) (sort least : ℕ) (next : ℕ → Tally) (entries : List Entry) (n : ℕ) (t u v : Tally) → n < length entries →
    SumTo g sort least next entries n t → IsEntryTally g sort least next (get_or entries n no_entry) u → v ≡ plus t u →
    SumTo g sort least next entries (n + 1) v
sum_on g sort least next entries n t u v low sum one e =
    rw (e, add-one) (sum_more (get_or entries n no_entry) sum (slice_get-get_or entries n no_entry low) one)

pub same_or_not : (a b : ℕ) → (a ≡ b) ⊎ (a ≡ b → ⊥)
same_or_not a b = by_order (cases_lt a b) (cases_lt b a)
  where
    by_order : (a < b) ⊎ (b ≤ a) → (b < a) ⊎ (a ≤ b) → (a ≡ b) ⊎ (a ≡ b → ⊥)
    by_order (inl low) h = inr (λ e. omega arith)
    by_order (inr high) (inl low) = inr (λ e. omega arith)
    by_order (inr high) (inr low) = inl (omega arith)

made_or_not : (o : Option Production) (sort least : ℕ) → IsOfSort o sort least ⊎ (IsOfSort o sort least → ⊥)
made_or_not None sort least = inr (λ h. h)
made_or_not (Some p) sort least = by_both (same_or_not p.sort sort) (cases_lt p.level least)
  where
    by_both : (p.sort ≡ sort) ⊎ (p.sort ≡ sort → ⊥) → (p.level < least) ⊎ (least ≤ p.level) → IsOfSort (Some p) sort least ⊎ (IsOfSort (Some p) sort least → ⊥)
    by_both (inl e) (inl low) = inr (λ h. let k = h.1 in omega arith)
    by_both (inl e) (inr high) = inl (e, high)
    by_both (inr differ) h = inr (λ k. differ k.0)

pub fits_or_not : (g : Grammar) (m : Maker) (sort least : ℕ) → FitsPart g m sort least ⊎ (FitsPart g m sort least → ⊥)
fits_or_not g (Variable other) sort least = same_or_not other sort
fits_or_not g (By head) sort least = made_or_not (production_of g head) sort least

pub nothing_after : (u : Tally) → times u no_way ≡ no_way
nothing_after no_way = refl
nothing_after (one_way d) = refl
nothing_after (more_ways d) = refl

-- where the row has no way, there is none by the entry
pub no_rest : (g : Grammar) (sort least : ℕ) (next : ℕ → Tally) (e : Entry) (t : Tally) → t ≡ no_way → t ≡ next e.to →
    IsEntryTally g sort least next e no_way
no_rest g sort least next e t none is = by_case (fits_or_not g e.maker sort least)
  where
    by_case : FitsPart g e.maker sort least ⊎ (FitsPart g e.maker sort least → ⊥) → IsEntryTally g sort least next e no_way
    by_case (inl fits) = inl (fits, sym (nothing_after (tally_of e.ways)) ∙ ap (times (tally_of e.ways)) (sym none ∙ is))
    by_case (inr not_fits) = inr (not_fits, refl)

greater_again : (a b c : ℕ) → max (max a b) c ≡ max a (max b c)
greater_again a b c = omega arith

-- sums may be taken together from either end
pub sum_again : (t u v : Tally) → plus (plus t u) v ≡ plus t (plus u v)
sum_again no_way u v = refl
sum_again (one_way a) no_way v = refl
sum_again (one_way a) (one_way b) no_way = refl
sum_again (one_way a) (one_way b) (one_way c) = ap more_ways (greater_again a b c)
sum_again (one_way a) (one_way b) (more_ways c) = ap more_ways (greater_again a b c)
sum_again (one_way a) (more_ways b) no_way = refl
sum_again (one_way a) (more_ways b) (one_way c) = ap more_ways (greater_again a b c)
sum_again (one_way a) (more_ways b) (more_ways c) = ap more_ways (greater_again a b c)
sum_again (more_ways a) no_way v = refl
sum_again (more_ways a) (one_way b) no_way = refl
sum_again (more_ways a) (one_way b) (one_way c) = ap more_ways (greater_again a b c)
sum_again (more_ways a) (one_way b) (more_ways c) = ap more_ways (greater_again a b c)
sum_again (more_ways a) (more_ways b) no_way = refl
sum_again (more_ways a) (more_ways b) (one_way c) = ap more_ways (greater_again a b c)
sum_again (more_ways a) (more_ways b) (more_ways c) = ap more_ways (greater_again a b c)

pub nothing_more : (t : Tally) → plus t no_way ≡ t
nothing_more no_way = refl
nothing_more (one_way d) = refl
nothing_more (more_ways d) = refl

module _ (g : Grammar) (sort least : ℕ) (next : ℕ → Tally) (entries : List Entry) (n : ℕ) (t : Tally) (sum : SumTo g sort least next entries n t) where
  skip_by : (d : ℕ) → n + d ≤ length entries →
      ((i : ℕ) (e : Entry) → n ≤ i → i < n + d → slice_get entries i ≡ Some e → next e.to ≡ no_way) → SumTo g sort least next entries (n + d) t
  skip_by zero low none = let e : n ≡ n + 0 = omega arith in subst (λ m. SumTo g sort least next entries m t) e sum
  skip_by (suc d) low none =
      let x = get_or entries (n + d) no_entry in
      let there : slice_get entries (n + d) ≡ Some x = slice_get-get_or entries (n + d) no_entry (omega arith) in
      let e : n + d + 1 ≡ n + suc d = omega arith in
      subst (λ m. SumTo g sort least next entries m t) e
      (sum_on g sort least next entries (n + d) t no_way t (omega arith) (skip_by d (omega arith) (λ i y a b. none i y a (omega arith)))
      (no_rest g sort least next x no_way refl (sym (none (n + d) x (omega arith) (omega arith) there))) (sym (nothing_more t)))

  -- entries at whose ends the row has no way add none
  pub skip_to : (m : ℕ) → n ≤ m → m ≤ length entries →
      ((i : ℕ) (e : Entry) → n ≤ i → i < m → slice_get entries i ≡ Some e → next e.to ≡ no_way) → SumTo g sort least next entries m t
  skip_to m high low none =
      let e : n + (m - n) ≡ m = omega arith in
      subst (λ k. SumTo g sort least next entries k t) e (skip_by (m - n) (omega arith) (λ i y a b. none i y a (omega arith)))
