-- Copies of derivations, kid by kid.
use Rattle.std.proofs.Common.{◌≡◌, ℕ, zero, suc, ◌<◌, ◌≤◌, length, take, take_all, get_or, List, [], ◌∷◌, Vec, Box, map, ap, sym, refl, ◌∙◌, subst, arith}
use Rattle.std.specs.declared.alloc.Global.{Global}
use Rattle.sx_term.specs.declared.term.Term.{Term}
use Rattle.sx_term.specs.Term.{tree}
use Rattle.sx_term.specs.Tree.{Tree}
use Rattle.sx_rules.specs.declared.proof.Proof.{Proof as ProofOf, By}
use Rattle.sx_rules.specs.Derivations.{Proof, by, HasShallowBinds, HaveShallowBinds, AreShallow}
use Rattle.sx_rules.specs.ProofView.{proof, row_of, boxed}
use Rattle.sx_rules.proofs.ProofRows.{proof-at_by}

-- the views of derivations
abbrev pub views : List (Box ProofOf Global) → List Proof
views ps = map (λ p. proof p.value) ps

shallow-at : (ks : List (Box ProofOf Global)) (i : ℕ) (k : Box ProofOf Global) → HaveShallowBinds (boxed ks) → i < length ks → k ≡ get_or ks i k → HasShallowBinds (proof k.value)
shallow-at [] i k h l e = absurd (omega arith)
shallow-at (x ∷ ks) zero k h l e = subst (λ (y : Box ProofOf Global). HasShallowBinds (proof y.value)) (sym e) h.0
shallow-at (x ∷ ks) (suc i) k h l e = shallow-at ks i k h.1 (omega arith) e

module _ (p : ProofOf) (rule : ℕ) (binds : Vec Term Global) (kids : Vec (Box ProofOf Global) Global) (is : p ≡ By rule binds kids) where
  pub binds-shallow : (ts : List Term) → ts ≡ binds.items → HasShallowBinds (proof p) → AreShallow (map tree ts)
  binds-shallow ts e h =
      subst (λ (xs : List Term). AreShallow (map tree xs)) (sym e) (subst HasShallowBinds (proof-at_by p rule binds kids is) h).0

  pub kid-shallow : (ks : List (Box ProofOf Global)) (i : ℕ) (k : Box ProofOf Global) (q : ProofOf) → ks ≡ kids.items → i < length ks → k ≡ get_or ks i k → q ≡ k.value → HasShallowBinds (proof p) → HasShallowBinds (proof q)
  kid-shallow ks i k q row l e same h =
      let all = subst HasShallowBinds (proof-at_by p rule binds kids is) h in
      let own = subst (λ (xs : List (Box ProofOf Global)). HaveShallowBinds (boxed xs)) (sym row) all.1 in
      subst (λ (x : ProofOf). HasShallowBinds (proof x)) (sym same) (shallow-at ks i k own l e)

  -- a node made of copies is a copy
  pub node-copied : (ks : List (Box ProofOf Global)) (i : ℕ) (terms : Vec Term Global) (ts : List Term) (copies : Vec (Box ProofOf Global) Global) → ks ≡ kids.items → ts ≡ binds.items → map tree terms.items ≡ map tree ts →
      views copies.items ≡ views (take i ks) → length ks ≤ i → proof (By rule terms copies) ≡ proof p
  node-copied ks i terms ts copies row same t m l =
      proof-at_by (By rule terms copies) rule terms copies refl
      ∙ ap (λ (x : List Tree). by rule x (boxed copies.items)) (t ∙ ap (map tree) same)
      ∙ ap (λ (x : List Proof). by rule (map tree binds.items) (row_of x)) (m ∙ ap views (take_all i ks l ∙ row))
      ∙ sym (proof-at_by p rule binds kids is)
