-- Lists by place, to one of which a number is added.
use Rattle.std.proofs.Common.{◌≡◌, ℕ, zero, suc, ◌<◌, List, [], ◌∷◌, ◌⊎◌, inl, inr, ⊎_elim, ap, refl, length, set, get_or, Contains, Vec, arith}
use Rattle.std.specs.declared.alloc.Global.{Global}
use Rattle.sx_grammar.specs.Cycles.{list_at}

pub list_at-is : (ls : List (Vec ℕ Global)) (p : ℕ) (d : Vec ℕ Global) → p < length ls → list_at ls p ≡ (get_or ls p d).items
list_at-is [] p d low = absurd (omega arith)
list_at-is (v ∷ vs) zero d low = refl
list_at-is (v ∷ vs) (suc p) d low = list_at-is vs p d (omega arith)

-- where the list at a place grew, or stayed
pub kept_at : (ls : List (Vec ℕ Global)) (p : ℕ) (v : Vec ℕ Global) → ((x : ℕ) → Contains (list_at ls p) x → Contains v.items x) → (q x : ℕ) → Contains (list_at ls q) x → Contains (list_at (set ls p v) q) x
kept_at [] p v grows q x there = there
kept_at (w ∷ ws) zero v grows zero x there = grows x there
kept_at (w ∷ ws) zero v grows (suc q) x there = there
kept_at (w ∷ ws) (suc p) v grows zero x there = there
kept_at (w ∷ ws) (suc p) v grows (suc q) x there = kept_at ws p v grows q x there

pub only_at : (ls : List (Vec ℕ Global)) (p : ℕ) (v : Vec ℕ Global) (item : ℕ) → ((x : ℕ) → Contains v.items x → Contains (list_at ls p) x ⊎ (x ≡ item)) → (q x : ℕ)
    → Contains (list_at (set ls p v) q) x → Contains (list_at ls q) x ⊎ ((q ≡ p) × (x ≡ item))
only_at [] p v item only q x there = inl there
only_at (w ∷ ws) zero v item only zero x there = ⊎_elim (λ old. inl old) (λ e. inr (refl, e)) (only x there)
only_at (w ∷ ws) zero v item only (suc q) x there = inl there
only_at (w ∷ ws) (suc p) v item only zero x there = inl there
only_at (w ∷ ws) (suc p) v item only (suc q) x there = ⊎_elim (λ old. inl old) (λ e. inr (ap suc e.0, e.1)) (only_at ws p v item only q x there)

pub there_in : (ls : List (Vec ℕ Global)) (p : ℕ) (v : Vec ℕ Global) (item : ℕ) → p < length ls → Contains v.items item → Contains (list_at (set ls p v) p) item
there_in [] p v item low there = absurd (omega arith)
there_in (w ∷ ws) zero v item low there = there
there_in (w ∷ ws) (suc p) v item low there = there_in ws p v item (omega arith) there
