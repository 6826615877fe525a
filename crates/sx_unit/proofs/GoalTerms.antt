-- The terms of a goal, one after another.
use Rattle.std.proofs.Common.{◌≡◌, ℕ, zero, suc, ◌+◌, ◌-◌, ◌^◌, ◌<◌, ◌≤◌, min, List, [], ◌∷◌, map, drop, get_or}
use Rattle.std.proofs.Common.{length, ap, ◌∙◌, sym, subst, arith}
use Rattle.std.proofs.lemmas.List.{drop_more}
use Rattle.sx_term.specs.declared.term.Term.{Term}
use Rattle.sx_term.specs.Term.{tree}
use Rattle.sx_term.specs.Tree.{depth_of, size_of}
use Rattle.sx_rules.specs.Deep.{AreShallow}
use Rattle.sx_expand.specs.Readings.{AllSmall}

-- each of the terms is no deeper than 1,000
pub shallow_at : (ts : List Term) (i : ℕ) (t : Term) → i < length ts → t ≡ get_or ts i t →
    AreShallow (map tree ts) → depth_of (tree t) ≤ 1000
shallow_at [] i t within at h = absurd (omega (arith, within))
shallow_at (x ∷ xs) zero t within at h =
    subst (λ (y : Term). depth_of (tree y) ≤ 1000) (sym at) h.0
shallow_at (x ∷ xs) (suc i) t within at h = shallow_at xs i t (omega (arith, within)) at h.1

-- where a term and those behind it are small, so are those from it on
pub one_smaller : (ts : List Term) (i : ℕ) (t : Term) (size : ℕ) → i < length ts →
    t ≡ get_or ts i t → AreShallow (map tree ts) → size ≡ min (size_of (tree t)) (2 ^ 64 - 1) →
    size ≤ 1000000 → AllSmall (map tree (drop (i + 1) ts)) → AllSmall (map tree (drop i ts))
one_smaller ts i t size within at shallow is few rest =
    let here : drop i ts ≡ t ∷ drop (i + 1) ts = drop_more ts i t within
    ∙ ap (λ (u : Term). u ∷ drop (i + 1) ts) (sym at) in
    let small : size_of (tree t) ≤ 1000000 = omega (arith, is, few) in
    subst (λ (us : List Term). AllSmall (map tree us)) (sym here)
    ((shallow_at ts i t within at shallow, small), rest)
