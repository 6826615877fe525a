-- Terms that are kept where an arena is cut.
use Rattle.std.proofs.Common.{◌≡◌, ℕ, zero, suc, ◌+◌, ◌<◌, ◌≤◌, Bool, true, false, List, [], ◌∷◌, map, length, get_or, Option, None, min, refl, sym, ap, ◌∙◌, arith, subst}
use Rattle.std.specs.Prelude.{nat_lt, take}
use Rattle.std.proofs.lemmas.List.{length-take, take_all}
use Rattle.sx_term.specs.Tree.{Tree, depth_of, size_of}
use Rattle.sx_rules.specs.Deep.{AreShallow}
use Rattle.sx_arena.specs.declared.arena.Arena.{Arena}
use Rattle.sx_arena.specs.Arena.{trees, tree_at, IsArena, AreBelow, Extends}
use Rattle.sx_arena.specs.Keeping.{AreKeptIn}
use Rattle.sx_arena.specs.Limits.{Cause, term_limit, first_cause, limit_passed}
use Rattle.sx_arena.specs.Places.{AreHeld}
use Rattle.sx_arena.proofs.Arenas.{maps_same, below_zero}
use Rattle.sx_arena.proofs.Growing.{extends-is, first_terms}

-- terms that pass no limit
term_shallow : (b c : Bool) (t : Tree) (r : Option Cause) → first_cause (term_limit b c t) r ≡ None → (b ≡ false) × (r ≡ None)
term_shallow true c t r e = cc
term_shallow false true t r e = cc
term_shallow false false t r e = (refl, e)

pub limit_shallow : (ts : List Tree) → limit_passed ts ≡ None → AreShallow ts
unfolding limit_passed
limit_shallow [] e = tt
limit_shallow (t ∷ ts) e =
    let h = term_shallow (nat_lt 1000 (depth_of t)) (nat_lt 1000000 (size_of t)) t (limit_passed ts) e in
    (not_lt (depth_of t) h.0, limit_shallow ts h.1)
  where
    not_lt : (n : ℕ) → nat_lt 1000 n ≡ false → n ≤ 1000
    not_lt n f = grind (arith, f)

-- the numbers that were looked at
pub below_more_of : (n : ℕ) (is : List ℕ) (i : ℕ) → i < length is → AreBelow n (take i is) → get_or is i 0 < n → AreBelow n (take (i + 1) is)
below_more_of n [] i l h b = absurd (omega arith)
below_more_of n (j ∷ is) zero l h b = (b, tt)
below_more_of n (j ∷ is) (suc i) l h b =
    let q : suc i + 1 ≡ suc (i + 1) = omega arith in
    subst (λ (k : ℕ). AreBelow n (take k (j ∷ is))) (sym q) (h.0, below_more_of n is i (omega arith) h.1 b)

pub below_all : (n : ℕ) (is : List ℕ) (i : ℕ) → length is ≤ i → AreBelow n (take i is) → AreBelow n is
below_all n is i l h = subst (λ (ks : List ℕ). AreBelow n ks) (take_all i is l) h

pub not_below : (n : ℕ) (is : List ℕ) (i : ℕ) → i < length is → n ≤ get_or is i 0 → AreBelow n is → ⊥
not_below n is i l g h = let b = below_zero n is h i l in omega arith

below_both : (m n k : ℕ) (is : List ℕ) → k ≡ min m n → AreBelow m is → AreBelow n is → AreBelow k is
below_both m n k [] e a b = tt
below_both m n k (i ∷ is) e a b = ((let x = a.0 in let y = b.0 in omega arith), below_both m n k is e a.1 b.1)

-- all terms stay
pub all_kept : (n : ℕ) (a : Arena) (is : List ℕ) → IsArena a → AreBelow (length (trees a)) is → AreKeptIn n a a is is
all_kept n a is h b = record { arena = h; kept = first_terms n (trees a); within = b; are = refl }

-- terms that stand among the first ones
pub first_kept : (n : ℕ) (old new : Arena) (is : List ℕ) → trees new ≡ take n (trees old) → IsArena new → AreBelow n is → AreBelow (length (trees old)) is → AreKeptIn n old new is is
first_kept n old new is e h a b =
    let l : length (trees new) ≡ min n (length (trees old)) = ap length e ∙ length-take n (trees old) in
    let w = below_both n (length (trees old)) (length (trees new)) is l a b in
    let x : Extends (trees new) (trees old) = subst (λ (ts : List Tree). Extends ts (trees old)) (sym e) (first_terms n (trees old)) in
    record { arena = h; kept = extends-is (take n (trees old)) (trees new) e; within = w; are = sym (maps_same (trees new) (trees old) x is w) }

-- terms that are made again
pub made_kept : (n : ℕ) (old cut new : Arena) (is made : List ℕ) (ts : List Tree) → trees cut ≡ take n (trees old) → ts ≡ map (tree_at (trees old)) is → AreHeld cut new made ts → AreKeptIn n old new is made
made_kept n old cut new is made ts e f h = record {
  arena = h.arena;
  kept = subst (λ (us : List Tree). Extends us (trees new)) e h.extends;
  within = h.within;
  are = h.are ∙ f;
}
