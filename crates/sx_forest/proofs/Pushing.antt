-- Lists with one element more at the end.
use Rattle.std.proofs.Common.{◌≡◌, ℕ, zero, suc, ◌+◌, ◌<◌, ◌≤◌, List, [], ◌∷◌, ◌++◌, ◌⊎◌, inl, inr, Option, Some, refl, sym, subst, ap, length, arith, length-append}
use Rattle.std.specs.List.{slice_get}
use Rattle.std.proofs.lemmas.Bool.{cases_lt}
use Rattle.std.proofs.lemmas.Option.{slice_get_within}

pub got_before : {X : Type 0} (xs ys : List X) (k : ℕ) → k < length xs → slice_get (xs ++ ys) k ≡ slice_get xs k
got_before [] ys k low = absurd (omega arith)
got_before (x ∷ xs) ys zero low = refl
got_before (x ∷ xs) ys (suc k) low = got_before xs ys k (omega arith)

pub got_last : {X : Type 0} (xs : List X) (x : X) → slice_get (xs ++ x ∷ []) (length xs) ≡ Some x
got_last [] x = refl
got_last (y ∷ xs) x = got_last xs x

pub one_longer : {X : Type 0} (xs : List X) (x : X) → length (xs ++ x ∷ []) ≡ length xs + 1
one_longer xs x = omega (arith, length-append xs (x ∷ []))

-- what holds of each place holds with one more
pub each_more : {X : Type 0} (P : ℕ → Option X → Type 0) (xs : List X) (x : X) → ((k : ℕ) → k < length xs → P k (slice_get xs k)) →
    P (length xs) (Some x) → (k : ℕ) → k < length (xs ++ x ∷ []) → P k (slice_get (xs ++ x ∷ []) k)
each_more {X = X} P xs x before here k low = by_place (cases_lt k (length xs))
  where
    by_place : (k < length xs) ⊎ (length xs ≤ k) → P k (slice_get (xs ++ x ∷ []) k)
    by_place (inl h) = subst (P k) (sym (got_before xs (x ∷ []) k h)) (before k h)
    by_place (inr h) =
        let same : length xs ≡ k = omega (arith, one_longer xs x) in
        subst (λ n. P n (slice_get (xs ++ x ∷ []) n)) same (subst (P (length xs)) (sym (got_last xs x)) here)

-- an element is one of those before, or the last
pub got_cases : {X : Type 0} (xs : List X) (x y : X) (k : ℕ) → slice_get (xs ++ x ∷ []) k ≡ Some y →
    ((k < length xs) × (slice_get xs k ≡ Some y)) ⊎ ((k ≡ length xs) × (x ≡ y))
got_cases xs x y k e = by_place (cases_lt k (length xs))
  where
    by_place : (k < length xs) ⊎ (length xs ≤ k) → ((k < length xs) × (slice_get xs k ≡ Some y)) ⊎ ((k ≡ length xs) × (x ≡ y))
    by_place (inl h) = inl (h, subst (λ o. o ≡ Some y) (got_before xs (x ∷ []) k h) e)
    by_place (inr h) =
        let low = slice_get_within (xs ++ x ∷ []) k y e in
        let same : k ≡ length xs = omega (arith, one_longer xs x) in
        let last : slice_get (xs ++ x ∷ []) (length xs) ≡ Some y = subst (λ n. slice_get (xs ++ x ∷ []) n ≡ Some y) same e in
        inr (same, let s : Some x ≡ Some y = cc (got_last xs x, last) in cc)

-- the same of a list that is known to be so
pub each_pushed : {X : Type 0} (P : ℕ → Option X → Type 0) (xs new : List X) (x : X) → new ≡ xs ++ x ∷ [] → ((k : ℕ) → k < length xs → P k (slice_get xs k)) →
    P (length xs) (Some x) → (k : ℕ) → k < length new → P k (slice_get new k)
each_pushed P xs new x e before here =
    subst (λ l. (k : ℕ) → k < length l → P k (slice_get l k)) (sym e) (each_more P xs x before here)

pub longer_pushed : {X : Type 0} (xs new : List X) (x : X) → new ≡ xs ++ x ∷ [] → length new ≡ length xs + 1
longer_pushed xs new x e = let h : length new ≡ length (xs ++ x ∷ []) = ap length e in omega (arith, one_longer xs x)
