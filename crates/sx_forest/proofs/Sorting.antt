-- Spans in order: by end, then by width, and then by rank.
use Rattle.std.proofs.Common.{◌≡◌, ℕ, zero, suc, ◌+◌, ◌<◌, ◌≤◌, false, true≢false, List, [], ◌∷◌, ◌⊎◌, inl, inr, refl, sym, subst, ◌∙◌, length, map, take, get_or, Contains, Ordering, Less, Equal, Greater, is_lt, arith, add-one}
use Rattle.std.specs.Cmp.{ranks}
use Rattle.std.specs.List.Sorted.{IsPermutation, IsSortedByKey}
use Rattle.std.specs.Ordering.{MatchOrdering, ordering_then, nat_cmp}
use Rattle.std.proofs.lemmas.Bool.{cases_lt}
use Rattle.std.proofs.lemmas.List.{take_all}
use Rattle.std.proofs.lemmas.List.Sorted.{Contains-permutation, IsPermutation-sym}
use Rattle.std.proofs.lemmas.Option.{slice_get_within, slice_get-get_or, same_Some}
use Rattle.sx_grammar.specs.Grammar.{Grammar}
use Rattle.sx_grammar.specs.Tally.{EachOnce}
use Rattle.sx_earley.specs.declared.span.Span.{Span}
use Rattle.sx_forest.specs.declared.ordered.Ordered.{Ordered}
use Rattle.sx_forest.specs.Ordering.{IsOrdered, IsAhead, IsInOrder, AreOrdered}
use Rattle.sx_forest.proofs.Apart.{once_sorted}

abbrev pub Key : Type 0
Key = ℕ × (ℕ × ℕ)

abbrev pub by_key : Key → Key → Ordering
by_key x y = ordering_then (nat_cmp x.0 y.0) (ordering_then (nat_cmp x.1.0 y.1.0) (nat_cmp x.1.1 y.1.1))

abbrev pub key : Ordered → Key
key o = (o.span.to, (o.width, o.rank))

-- the second does not come before the first
abbrev UpTo : Key → Key → Type 0
UpTo x y = (x.0 < y.0) ⊎ ((x.0 ≡ y.0) × ((x.1.0 < y.1.0) ⊎ ((x.1.0 ≡ y.1.0) × (x.1.1 ≤ y.1.1))))

not_before : (x y : Key) → is_lt (by_key y x) ≡ false → UpTo x y
not_before x y = by (nat_cmp y.0 x.0) (nat_cmp y.1.0 x.1.0) (nat_cmp y.1.1 x.1.1) (ranks y.0 x.0) (ranks y.1.0 x.1.0) (ranks y.1.1 x.1.1)
  where
    by : (o p q : Ordering) → MatchOrdering o (y.0 < x.0) (y.0 ≡ x.0) (x.0 < y.0) → MatchOrdering p (y.1.0 < x.1.0) (y.1.0 ≡ x.1.0) (x.1.0 < y.1.0) →
        MatchOrdering q (y.1.1 < x.1.1) (y.1.1 ≡ x.1.1) (x.1.1 < y.1.1) → is_lt (ordering_then o (ordering_then p q)) ≡ false → UpTo x y
    by Less p q h k l e = absurd (true≢false e)
    by Equal Less q h k l e = absurd (true≢false e)
    by Equal Equal Less h k l e = absurd (true≢false e)
    by Equal Equal Equal h k l e = inr (sym h, inr (sym k, omega arith))
    by Equal Equal Greater h k l e = inr (sym h, inr (sym k, omega arith))
    by Equal Greater q h k l e = inr (sym h, inl k)
    by Greater p q h k l e = inl h

up_again : (x : Key) → UpTo x x
up_again x = inr (refl, inr (refl, omega arith))

up_on : (x y z : Key) → UpTo x y → UpTo y z → UpTo x z
up_on x y z (inl h) (inl k) = inl (omega arith)
up_on x y z (inl h) (inr k) = inl (omega (arith, k.0))
up_on x y z (inr h) (inl k) = inl (omega (arith, h.0))
up_on x y z (inr h) (inr k) = inr (h.0 ∙ k.0, within h.1 k.1)
  where
    within : (x.1.0 < y.1.0) ⊎ ((x.1.0 ≡ y.1.0) × (x.1.1 ≤ y.1.1)) → (y.1.0 < z.1.0) ⊎ ((y.1.0 ≡ z.1.0) × (y.1.1 ≤ z.1.1)) → (x.1.0 < z.1.0) ⊎ ((x.1.0 ≡ z.1.0) × (x.1.1 ≤ z.1.1))
    within (inl a) (inl b) = inl (omega arith)
    within (inl a) (inr b) = inl (omega (arith, b.0))
    within (inr a) (inl b) = inl (omega (arith, a.0))
    within (inr a) (inr b) = inr (a.0 ∙ b.0, omega (arith, a.1, b.1))

-- what is ahead does not come after
not_both : (a b : Ordered) → IsAhead a b → UpTo (key b) (key a) → ⊥
not_both a b (inl h) (inl k) = omega arith
not_both a b (inl h) (inr k) = omega (arith, k.0)
not_both a b (inr h) (inl k) = omega (arith, h.0)
not_both a b (inr h) (inr k) = within h.1 k.1
  where
    within : (a.width < b.width) ⊎ ((a.width ≡ b.width) × (a.rank < b.rank)) → (b.width < a.width) ⊎ ((b.width ≡ a.width) × (b.rank ≤ a.rank)) → ⊥
    within (inl x) (inl y) = omega arith
    within (inl x) (inr y) = omega (arith, y.0)
    within (inr x) (inl y) = omega (arith, x.0)
    within (inr x) (inr y) = omega (arith, x.1, y.1)

module _ (xs : List Ordered) (up : IsSortedByKey key by_key xs) where
  far : (i j : ℕ) (d : Ordered) → i ≤ j → j < length xs → UpTo (key (get_or xs i d)) (key (get_or xs j d))
  far i zero d low within = let same : i ≡ 0 = omega arith in subst (λ n. UpTo (key (get_or xs n d)) (key (get_or xs 0 d))) (sym same) (up_again (key (get_or xs 0 d)))
  far i (suc j) d low within = by_order (cases_lt j i) (λ h. far i j d h (omega arith))
    where
      by_order : (j < i) ⊎ (i ≤ j) → (i ≤ j → UpTo (key (get_or xs i d)) (key (get_or xs j d))) → UpTo (key (get_or xs i d)) (key (get_or xs (suc j) d))
      by_order (inl h) before =
          let same : i ≡ suc j = omega arith in
          subst (λ n. UpTo (key (get_or xs n d)) (key (get_or xs (suc j) d))) (sym same) (up_again (key (get_or xs (suc j) d)))
      by_order (inr h) before =
          let step : UpTo (key (get_or xs j d)) (key (get_or xs (suc j) d)) =
          subst (λ n. UpTo (key (get_or xs j d)) (key (get_or xs n d))) (add-one j)
          (not_before (key (get_or xs j d)) (key (get_or xs (j + 1) d)) (up j d (omega arith) (omega arith))) in
          up_on (key (get_or xs i d)) (key (get_or xs j d)) (key (get_or xs (suc j) d)) (before h) step

  pub in_order : IsInOrder xs
  in_order i j a b at bt before = by_order (cases_lt i j)
    where
      by_order : (i < j) ⊎ (j ≤ i) → i < j
      by_order (inl h) = h
      by_order (inr h) =
          let within = slice_get_within xs i a at in let within' = slice_get_within xs j b bt in
          let e : get_or xs i a ≡ a = same_Some (get_or xs i a) a (sym (slice_get-get_or xs i a within) ∙ at) in
          let e' : get_or xs j a ≡ b = same_Some (get_or xs j a) b (sym (slice_get-get_or xs j a within') ∙ bt) in
          let back : UpTo (key b) (key a) = subst (λ x. UpTo (key x) (key a)) e' (subst (λ x. UpTo (key (get_or xs j a)) (key x)) e (far j i a h within)) in
          absurd (not_both a b before back)

-- sorting leaves what is listed
pub are_ordered : (g : Grammar) (rank : ℕ → ℕ) (spans : List Span) (n : ℕ) (list sorted : List Ordered) → length spans ≤ n → EachOnce spans → IsPermutation list sorted → IsInOrder sorted →
    ((o : Ordered) → Contains list o → Contains spans o.span × IsOrdered g rank o) → map (λ o. o.span) list ≡ take n spans → AreOrdered g rank spans sorted
are_ordered g rank spans n list sorted long once moved up only listed =
    let all : map (λ o. o.span) list ≡ spans = listed ∙ take_all n spans long in
    record {
      only = λ o there. only o (Contains-permutation sorted list o (IsPermutation-sym list sorted moved) there);
      every = λ s there.
          let o = from_map list s (subst (λ l. Contains l s) (sym all) there) in
          (o.0, Contains-permutation list sorted o.0 moved o.1, o.2);
      once = once_sorted spans list sorted once all moved;
      sorted = up;
    }
  where
    from_map : (xs : List Ordered) (s : Span) → Contains (map (λ o. o.span) xs) s → (o : Ordered) × Contains xs o × (o.span ≡ s)
    from_map [] s there = let low = there.1 in absurd (omega arith)
    from_map (x ∷ xs) s (zero, low, e) = (x, (0, omega arith, refl), e)
    from_map (x ∷ xs) s (suc k, low, e) = let o = from_map xs s (k, omega arith, e) in (o.0, (suc o.1.0, omega (arith, o.1.1), o.1.2), o.2)
