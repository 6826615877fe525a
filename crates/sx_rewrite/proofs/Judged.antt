-- Judgements of lowered derivations.
use Rattle.std.proofs.Common.{◌≡◌, arith, ℕ, zero, suc, ◌+◌, ◌<◌, ◌≤◌, take, get_or, length, List, [], ◌∷◌, ◌++◌, map, Box, Vec, Some, None, refl, sym, ap, ◌∙◌, subst}
use Rattle.std.specs.declared.alloc.Global.{Global}
use Rattle.std.specs.Prelude.{slice_get}
use Rattle.sx_term.specs.declared.term.Term.{Term}
use Rattle.sx_term.specs.Term.{tree}
use Rattle.sx_term.specs.Tree.{Tree}
use Rattle.sx_term.specs.Instances.{bound_by}
use Rattle.sx_rules.specs.declared.proof.Proof.{Proof as ProofOf, By, Given}
use Rattle.sx_rules.specs.declared.rule.Rule.{Rule as RuleOf}
use Rattle.sx_rules.specs.Rules.{Judgement, Hypotheses, judgement_instance}
use Rattle.sx_rules.specs.Views.{named, rule, judgement}
use Rattle.sx_rules.specs.Derivations.{Proof, given, Derives}
use Rattle.sx_rules.specs.ProofView.{proof}
use Rattle.sx_rules.proofs.ProofRows.{proof-at_by}
use Rattle.sx_rewrite.proofs.Instanced.{bare-found, bare-none, tree-both}
use Rattle.sx_rewrite.proofs.SubjectTerms.{by-concludes, by-none, given-concludes}

-- terms that are made one after another
pub record MadeSoFar (f : Tree → Tree) (ts : List Term) (i : ℕ) (made : List Term) : Type 0 where
  pub made_are : map tree made ≡ map f (take i (map tree ts))

module _ (f : Tree → Tree) (ts : List Term) where
  pub none-made : (made : List Term) → made ≡ [] → MadeSoFar f ts 0 made
  none-made made e = record { made_are = ap (map tree) e }

  made-to : (us : List Term) (i : ℕ) (k : Term) → i < length us → k ≡ get_or us i k → map f (take (i + 1) (map tree us)) ≡ map f (take i (map tree us)) ++ f (tree k) ∷ []
  made-to [] i k l e = absurd (omega (arith, l))
  made-to (u ∷ us) zero k l e = ap (λ (x : Term). f (tree x) ∷ []) (sym e)
  made-to (u ∷ us) (suc i) k l e =
      let n : suc i + 1 ≡ suc (i + 1) = omega arith in
      rw n (ap (λ (xs : List Tree). f (tree u) ∷ xs) (made-to us i k (omega (arith, l)) e))

  made-end : (us : List Term) (i : ℕ) → length us ≤ i → map f (take i (map tree us)) ≡ map f (map tree us)
  made-end [] zero l = refl
  made-end [] (suc i) l = refl
  made-end (u ∷ us) zero l = absurd (omega (arith, l))
  made-end (u ∷ us) (suc i) l = ap (λ (xs : List Tree). f (tree u) ∷ xs) (made-end us i (omega (arith, l)))

  pub one-made : (i : ℕ) (made : List Term) → MadeSoFar f ts i made → (k : Term) → i < length ts → k ≡ get_or ts i k → (new : Term) → tree new ≡ f (tree k) → MadeSoFar f ts (i + 1) (made ++ new ∷ [])
  one-made i made so k l e new h = record {
    made_are =
        tree-both made (new ∷ []) ∙ ap (λ (xs : List Tree). xs ++ tree new ∷ []) so.made_are ∙ ap (λ (x : Tree). map f (take i (map tree ts)) ++ x ∷ []) h
        ∙ sym (made-to ts i k l e);
  }

  pub all-made : (i : ℕ) (made : List Term) → MadeSoFar f ts i made → length ts ≤ i → map tree made ≡ map f (map tree ts)
  all-made i made so l = so.made_are ∙ made-end ts i l

-- the judgement that a derivation derives
module _ (rs : List RuleOf) (hyps : Hypotheses) (p : ProofOf) (k : Judgement) (d : Derives (map rule rs) hyps k (proof p)) where
  module _ (r : ℕ) (binds : Vec Term Global) (kids : Vec (Box ProofOf Global) Global) (is : p ≡ By r binds kids) where
    pub rule-judges : (terms : List Term) (found : RuleOf) → terms ≡ binds.items → slice_get (map named rs) r ≡ Some (named found) → judgement_instance (bound_by (map tree terms)) (judgement found.conclusion) ≡ k
    rule-judges terms found same at =
        ap (λ (xs : List Term). judgement_instance (bound_by (map tree xs)) (judgement found.conclusion)) same
        ∙ by-concludes (map rule rs) hyps k r (map tree binds.items) _ (rule found) (bare-found rs r found at) (subst (λ (q : Proof). Derives (map rule rs) hyps k q) (proof-at_by p r binds kids is) d)

    pub never-ruleless : slice_get (map named rs) r ≡ None → ⊥
    never-ruleless none = by-none (map rule rs) hyps k r (map tree binds.items) _ (bare-none rs r none) (subst (λ (q : Proof). Derives (map rule rs) hyps k q) (proof-at_by p r binds kids is) d)

  module _ (i : ℕ) (is : p ≡ Given i) where
    given-derives : Derives (map rule rs) hyps k (given i)
    given-derives = subst (λ (q : ProofOf). Derives (map rule rs) hyps k (proof q)) is d

    pub given-judges : (j : Judgement) → slice_get hyps.judgements i ≡ Some j → j ≡ k
    given-judges j at = given-concludes (map rule rs) hyps k i j at given-derives

    pub never-missing : slice_get hyps.judgements i ≡ None → ⊥
    never-missing none = let q : None ≡ Some k = sym none ∙ given-derives in cc
