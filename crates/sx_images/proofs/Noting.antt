-- Notes by number.
use Rattle.std.proofs.Common.{◌≡◌, ◌≢◌, arith, ℕ, zero, suc, ◌+◌, ◌<◌, set, get_or, Bool, true, false, List, [], ◌∷◌, ◌++◌, length, Option, Some, None, refl, sym, ap, ◌∙◌, subst}
use Rattle.std.specs.Prelude.{◌==◌, if◌then◌else◌}
use Rattle.std.proofs.lemmas.Bool.{eqb-true}
use Rattle.std.proofs.lemmas.List.{get_or-set_same, get_or-set_other, length_push}
use Rattle.sx_images.specs.Images.{noted_at, with_note}

-- a list with an empty note at its end tells the same
pub noted-none : {N : Type 0} (ns : List (Option N)) (i : ℕ) → noted_at (ns ++ None ∷ []) i ≡ noted_at ns i
noted-none [] zero = refl
noted-none [] (suc i) = refl
noted-none (n ∷ ns) zero = refl
noted-none (n ∷ ns) (suc i) = noted-none ns i

differ : (i j : ℕ) → (i == j) ≡ false → i ≡ j → ⊥
differ i j f q = let g : (j == j) ≡ false = subst (λ (n : ℕ). (n == j) ≡ false) q f in let h : (j == j) ≡ true = grind arith in cc

-- what holds at the number and elsewhere
by_place : {N : Type 0} (old : ℕ → Option N) (new : ℕ → Option N) (k : ℕ) (v : N) → new k ≡ Some v → ((i : ℕ) → i ≢ k → new i ≡ old i) → (i : ℕ) → new i ≡ with_note old k v i
by_place {N} old new k v here rest i = go (i == k) refl
  where
    go : (b : Bool) → (i == k) ≡ b → new i ≡ (if b then Some v else old i)
    go true e = subst (λ (n : ℕ). new n ≡ Some v) (sym (eqb-true i k e)) here
    go false e = rest i (differ i k e)

pub noted-set : {N : Type 0} (ns : List (Option N)) (k : ℕ) (v : N) → k < length ns → (i : ℕ) → noted_at (set ns k (Some v)) i ≡ with_note (noted_at ns) k v i
noted-set ns k v l = by_place (noted_at ns) (noted_at (set ns k (Some v))) k v (get_or-set_same ns k (Some v) None l) (λ i m. get_or-set_other ns k i (Some v) None m)

pushed : {N : Type 0} (ns : List (Option N)) (o : Option N) (i : ℕ) → i ≡ length ns → get_or (ns ++ o ∷ []) i None ≡ o
pushed [] o zero e = refl
pushed [] o (suc i) e = absurd (omega arith)
pushed (x ∷ ns) o zero e = absurd (omega arith)
pushed (x ∷ ns) o (suc i) e = pushed ns o i (omega arith)

push-other : {N : Type 0} (ns : List (Option N)) (o : Option N) (i k : ℕ) → k ≡ length ns → i ≢ k → get_or (ns ++ o ∷ []) i None ≡ get_or ns i None
push-other [] o zero k e n = absurd (n (sym e))
push-other [] o (suc i) k e n = refl
push-other (x ∷ ns) o zero k e n = refl
push-other (x ∷ ns) o (suc i) k e n = push-other ns o i (length ns) refl (λ q. n (let r : suc i ≡ k = omega arith in r))

pub noted-push : {N : Type 0} (ns : List (Option N)) (k : ℕ) (v : N) → k ≡ length ns → (i : ℕ) → noted_at (ns ++ Some v ∷ []) i ≡ with_note (noted_at ns) k v i
noted-push ns k v e = by_place (noted_at ns) (noted_at (ns ++ Some v ∷ [])) k v (pushed ns (Some v) k e) (λ i m. push-other ns (Some v) i k e m)

-- what all notes say is said by all with one more
pub noted-more : {N : Type 0} (P : ℕ → N → Type 0) (old new : ℕ → Option N) (k : ℕ) (v : N) → ((i : ℕ) (m : N) → old i ≡ Some m → P i m) → P k v →
    ((i : ℕ) → new i ≡ with_note old k v i) → (i : ℕ) (m : N) → new i ≡ Some m → P i m
noted-more {N} P old new k v all p same i m e = go (i == k) refl (sym (same i) ∙ e)
  where
    go : (b : Bool) → (i == k) ≡ b → (if b then Some v else old i) ≡ Some m → P i m
    go true f g = let q : v ≡ m = cc in subst (λ (n : ℕ). P n m) (sym (eqb-true i k f)) (subst (λ (x : N). P k x) q p)
    go false f g = all i m g

-- the same note beside the same notes
pub with-same : {N : Type 0} (old new : ℕ → Option N) (k : ℕ) (v : N) → ((i : ℕ) → old i ≡ new i) → (i : ℕ) → with_note old k v i ≡ with_note new k v i
with-same {N} old new k v same i = ap (λ (o : Option N). if i == k then Some v else o) (same i)

pub noted-eq : {N : Type 0} (xs ys : List (Option N)) → xs ≡ ys → (i : ℕ) → noted_at xs i ≡ noted_at ys i
noted-eq {N} xs ys e i = ap (λ (ns : List (Option N)). noted_at ns i) e

pub length-eq : {N : Type 0} (xs ys : List (Option N)) (o : Option N) → xs ≡ ys ++ o ∷ [] → length xs ≡ length ys + 1
length-eq {N} xs ys o e = ap (λ (ns : List (Option N)). length ns) e ∙ length_push ys o
