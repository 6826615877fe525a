-- The numbers of the terms that are bound, one variable after another.
use Rattle.std.proofs.Common.{◌≡◌, arith, ℕ, zero, suc, ◌+◌, ◌<◌, List, [], ◌∷◌, ◌++◌, map, length, Some, None, refl, sym, ap, ◌∙◌, subst}
use Rattle.sx_term.specs.Tree.{Tree}
use Rattle.sx_arena.specs.Arena.{tree_at, AreBelow}
use Rattle.sx_arena.specs.Binds.{IsBoundTerm}
use Rattle.sx_arena.specs.Limits.{first_values}
use Rattle.sx_arena.specs.Matching.{value_or, filled, IsBound}
use Rattle.sx_expand.specs.declared.work.Work.{Work}
use Rattle.sx_expand.specs.Followed.{IsWork, bindings_of}

values-one : (n : ℕ) (s : ℕ → Tree) → first_values (suc n) s ≡ first_values n s ++ s n ∷ []
values-one zero s = refl
values-one (suc n) s = ap (λ (ts : List Tree). s 0 ∷ ts) (values-one n (λ v. s (suc v)))

below-one : (n : ℕ) (is : List ℕ) (i : ℕ) → AreBelow n is → i < n → AreBelow n (is ++ i ∷ [])
below-one n [] i h l = (l, tt)
below-one n (j ∷ is) i h l = (h.0, below-one n is i h.1 l)

maps-one : (f : ℕ → Tree) (is : List ℕ) (i : ℕ) → map f (is ++ i ∷ []) ≡ map f is ++ f i ∷ []
maps-one f [] i = refl
maps-one f (j ∷ is) i = ap (λ (ts : List Tree). f j ∷ ts) (maps-one f is i)

-- the first so many are found
pub record BoundSoFar (w : Work) (count v : ℕ) (ns : List ℕ) : Type 0 where
  pub goes : (terms : List Tree) → IsWork terms w → ((x : ℕ) → x < count → IsBound (bindings_of terms w) x) →
      AreBelow (length terms) ns × (map (tree_at terms) ns ≡ first_values v (filled (bindings_of terms w)))

pub none-bound : (w : Work) (count : ℕ) (ns : List ℕ) → ns ≡ [] → BoundSoFar w count 0 ns
none-bound w count ns e = subst (BoundSoFar w count 0) (sym e) (record { goes = λ terms h b. (tt, refl) })

-- one more is found
pub one-bound : (w : Work) (count v t : ℕ) (ns more : List ℕ) → BoundSoFar w count v ns → ((terms : List Tree) → IsWork terms w → IsBoundTerm terms (bindings_of terms w v) (Some t)) → more ≡ ns ++ t ∷ [] →
    BoundSoFar w count (v + 1) more
one-bound w count v t ns more so found e = record {
  goes = λ terms h b.
      let f = found terms h in
      let x = so.goes terms h b in
      let k : suc v ≡ v + 1 = omega arith in
      let i = x.1 in
      let g : filled (bindings_of terms w) v ≡ tree_at terms t = ap value_or f.1 in
      let are : map (tree_at terms) (ns ++ t ∷ []) ≡ first_values (v + 1) (filled (bindings_of terms w)) =
      maps-one (tree_at terms) ns t ∙ ap (λ (ts : List Tree). ts ++ tree_at terms t ∷ []) i ∙ ap (λ (y : Tree). first_values v (filled (bindings_of terms w)) ++ y ∷ []) (sym g)
      ∙ sym (values-one v (filled (bindings_of terms w))) ∙ ap (λ (n : ℕ). first_values n (filled (bindings_of terms w))) k in
      subst (λ (is : List ℕ). AreBelow (length terms) is × (map (tree_at terms) is ≡ first_values (v + 1) (filled (bindings_of terms w)))) (sym e)
      (below-one (length terms) ns t x.0 f.0, are);
}

pub all-bound : (w : Work) (count v : ℕ) (ns : List ℕ) → BoundSoFar w count v ns → v ≡ count → (terms : List Tree) → IsWork terms w → ((x : ℕ) → x < count → IsBound (bindings_of terms w) x) →
    AreBelow (length terms) ns × (map (tree_at terms) ns ≡ first_values count (filled (bindings_of terms w)))
all-bound w count v ns so e terms h b =
    let x = so.goes terms h b in
    (x.0, x.1 ∙ ap (λ (n : ℕ). first_values n (filled (bindings_of terms w))) e)

-- a bound variable is found
pub is-found : (w : Work) (count v : ℕ) (terms : List Tree) → ((x : ℕ) → x < count → IsBound (bindings_of terms w) x) → v < count → IsBoundTerm terms (bindings_of terms w v) None → ⊥
is-found w count v terms b l f = let x = b v l in let q : None ≡ Some x.0 = sym f ∙ x.1 in cc
