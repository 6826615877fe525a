-- Names that are copied one by one.
use Rattle.std.proofs.Common.{◌≡◌, ℕ, zero, suc, ◌+◌, ◌<◌, ◌⊎◌, inl, inr, List, [], ◌∷◌, ◌++◌, Some, take, slice_get, Contains, refl, ap, ◌∙◌, sym, subst, add-one, arith}
use Rattle.std.specs.Prelude.{None}
use Rattle.sx_term.specs.Cutting.{AreDistinct}
use Rattle.sx_term.specs.Vars.{IsAdded}

-- a name among the first ones stands at one of their places
taken : (names : List (List ℕ)) (n : ℕ) (x : List ℕ) → Contains (take n names) x → (i : ℕ) × (i < n) × (slice_get names i ≡ Some x)
taken names zero x h = absurd (omega (arith, h.1))
taken [] (suc n) x h = absurd (omega (arith, h.1))
taken (y ∷ ys) (suc n) x (zero, h, e) = (0, omega arith, ap Some e)
taken (y ∷ ys) (suc n) x (suc k, h, e) = let r = taken ys n x (k, omega (arith, h), e) in (suc r.0, omega (arith, r.1), r.2)

take_next : (names : List (List ℕ)) (n : ℕ) (x : List ℕ) → slice_get names n ≡ Some x → take (suc n) names ≡ take n names ++ x ∷ []
take_next [] n x e = cc
take_next (y ∷ ys) zero x e = let q : y ≡ x = cc in ap (λ z. z ∷ []) q
take_next (y ∷ ys) (suc n) x e = ap (λ z. y ∷ z) (take_next ys n x e)

-- the first ones are all, where there is no further one
pub take_end : (names : List (List ℕ)) (n : ℕ) → slice_get names n ≡ None → take n names ≡ names
take_end [] zero e = refl
take_end [] (suc n) e = refl
take_end (y ∷ ys) zero e = cc
take_end (y ∷ ys) (suc n) e = ap (λ z. y ∷ z) (take_end ys n e)

-- one more is copied
pub copied_more : (names now new : List (List ℕ)) (n : ℕ) (x : List ℕ) (number : ℕ) → AreDistinct names → now ≡ take n names → slice_get names n ≡ Some x → IsAdded now new x number → new ≡ take (n + 1) names
copied_more names now new n x number distinct is e added = by added.list
  where
    by : (Contains now x × (new ≡ now)) ⊎ ((Contains now x → ⊥) × (new ≡ now ++ x ∷ [])) → new ≡ take (n + 1) names
    by (inl h) =
        let t = taken names n x (subst (λ l. Contains l x) is h.0) in
        let q : t.0 ≡ n = distinct t.0 n x t.2 e in
        absurd (omega (arith, t.1, q))
    by (inr h) = h.1 ∙ ap (λ l. l ++ x ∷ []) is ∙ sym (take_next names n x e) ∙ ap (λ m. take m names) (sym (add-one n))
