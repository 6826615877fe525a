-- Places of lists, and lists by place.
use Rattle.std.proofs.Common.{◌≡◌, ℕ, zero, suc, ◌<◌, List, [], ◌∷◌, ◌++◌, ◌⊎◌, inl, inr, ⊎_elim, Some, None, Option, ap, refl, length, set, get_or, Vec, arith}
use Rattle.std.specs.declared.alloc.Global.{Global}
use Rattle.std.specs.Prelude.{slice_get, IsSome, option_to_list}
use Rattle.std.proofs.lemmas.Bool.{false≢true}
use Rattle.sx_grammar.specs.declared.progress.Waiting.{Waiting}
use Rattle.sx_grammar.specs.Ranks.{waiting_at, rank_in, IsPopped}

pub waiting_at-is : (ls : List (Vec Waiting Global)) (p : ℕ) (d : Vec Waiting Global) → p < length ls → waiting_at ls p ≡ (get_or ls p d).items
waiting_at-is [] p d low = absurd (omega arith)
waiting_at-is (v ∷ vs) zero d low = refl
waiting_at-is (v ∷ vs) (suc p) d low = waiting_at-is vs p d (omega arith)

pub waiting_at-set_same : (ls : List (Vec Waiting Global)) (p : ℕ) (v : Vec Waiting Global) → p < length ls → waiting_at (set ls p v) p ≡ v.items
waiting_at-set_same [] p v low = absurd (omega arith)
waiting_at-set_same (w ∷ ws) zero v low = refl
waiting_at-set_same (w ∷ ws) (suc p) v low = waiting_at-set_same ws p v (omega arith)

pub waiting_at-set_other : (ls : List (Vec Waiting Global)) (p q : ℕ) (v : Vec Waiting Global) → ¬ (q ≡ p) → waiting_at (set ls p v) q ≡ waiting_at ls q
waiting_at-set_other [] p q v apart = refl
waiting_at-set_other (w ∷ ws) zero zero v apart = absurd (apart refl)
waiting_at-set_other (w ∷ ws) zero (suc q) v apart = refl
waiting_at-set_other (w ∷ ws) (suc p) zero v apart = refl
waiting_at-set_other (w ∷ ws) (suc p) (suc q) v apart = waiting_at-set_other ws p q v (λ e. apart (ap suc e))

-- one more list without elements
pub waiting_at-push : (ls : List (Vec Waiting Global)) (v : Vec Waiting Global) → v.items ≡ [] → ((x : ℕ) → waiting_at ls x ≡ []) → (x : ℕ) → waiting_at (ls ++ v ∷ []) x ≡ []
waiting_at-push [] v e still zero = e
waiting_at-push [] v e still (suc x) = refl
waiting_at-push (w ∷ ls) v e still zero = still zero
waiting_at-push (w ∷ ls) v e still (suc x) = waiting_at-push ls v e (λ x. still (suc x)) x

-- one more number without a rank
pub rank_in-push : (ranks : List (Option ℕ)) → ((x : ℕ) → rank_in ranks x ≡ None) → (x : ℕ) → rank_in (ranks ++ None ∷ []) x ≡ None
rank_in-push [] none zero = refl
rank_in-push [] none (suc x) = refl
rank_in-push (r ∷ ranks) none zero = none zero
rank_in-push (r ∷ ranks) none (suc x) = rank_in-push ranks (λ x. none (suc x)) x

-- what stands at a place of a list with one element more
pub got_push : {X : Type 0} (xs : List X) (y x : X) (n : ℕ) → slice_get (xs ++ y ∷ []) n ≡ Some x → (slice_get xs n ≡ Some x) ⊎ ((n ≡ length xs) × (y ≡ x))
got_push [] y x zero e = let same : y ≡ x = cc in inr (refl, same)
got_push [] y x (suc n) e = inl e
got_push (z ∷ xs) y x zero e = inl e
got_push (z ∷ xs) y x (suc n) e = ⊎_elim (λ old. inl old) (λ last. inr (ap suc last.0, last.1)) (got_push xs y x n e)

pub got_kept : {X : Type 0} (xs : List X) (y x : X) (n : ℕ) → slice_get xs n ≡ Some x → slice_get (xs ++ y ∷ []) n ≡ Some x
got_kept [] y x n e = let clash : None ≡ Some x = e in cc
got_kept (z ∷ xs) y x zero e = e
got_kept (z ∷ xs) y x (suc n) e = got_kept xs y x n e

pub got_last : {X : Type 0} (xs : List X) (y : X) → slice_get (xs ++ y ∷ []) (length xs) ≡ Some y
got_last [] y = refl
got_last (z ∷ xs) y = got_last xs y

pub popped : (old new : List Waiting) (w : Option Waiting) → old ≡ new ++ option_to_list w → (0 < length old → IsSome w) → IsPopped old new w
popped old new (Some w) e some = e
popped [] [] None e some = (refl, refl)
popped [] (v ∷ vs) None e some = cc
popped (v ∷ vs) new None e some = absurd (false≢true (some (omega arith)))
