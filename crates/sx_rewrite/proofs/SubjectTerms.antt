-- Subjects of judgements.
use Rattle.std.proofs.Common.{◌≡◌, ℕ, zero, suc, ◌≤◌, Bool, true, false, List, [], ◌∷◌, map, Box, Vec, Option, Some, None, sym, ap, ◌∙◌, subst}
use Rattle.std.specs.declared.alloc.Global.{Global}
use Rattle.std.specs.Prelude.{slice_get, Result, Ok, Err, IfOk}
use Rattle.sx_term.specs.declared.term.Term.{Term}
use Rattle.sx_term.specs.Term.{tree}
use Rattle.sx_term.specs.Tree.{Tree, depth_of}
use Rattle.sx_term.specs.Instances.{instance, bound_by}
use Rattle.sx_rules.specs.Rules.{Judgement, Rule, Hypotheses, judgement_instance}
use Rattle.sx_rules.specs.Modes.{Modes, outputs}
use Rattle.sx_rules.specs.Discipline.{subjects_of}
use Rattle.sx_rules.specs.Derivations.{Proof, Proofs, by, given, Derives, AreShallow, ShallowJudgements}
use Rattle.sx_rules.proofs.Moded.{outputs-map}
use Rattle.sx_rules.specs.declared.proof.Proof.{Proof as ProofOf, By, Given}
use Rattle.sx_rules.specs.declared.rule.Rule.{Rule as RuleOf}
use Rattle.sx_rules.specs.Views.{named, rule, judgement}
use Rattle.sx_rules.specs.ProofView.{proof}
use Rattle.sx_rules.proofs.ProofRows.{proof-at_by}
use Rattle.sx_rules.specs.SubjectTerms.{IsSubject}
use Rattle.sx_rewrite.proofs.Instanced.{bare-found, bare-none}

-- the subject is no deeper than the places
shallow-first : (mask : List Bool) (ts : List Tree) (t : Tree) (rest : List Tree) → AreShallow ts → outputs mask ts ≡ t ∷ rest → depth_of t ≤ 1000
shallow-first [] ts t rest h e = cc
shallow-first (b ∷ mask) [] t rest h e = cc
shallow-first (true ∷ mask) (u ∷ ts) t rest h e = let q : u ≡ t = cc in subst (λ (x : Tree). depth_of x ≤ 1000) q h.0
shallow-first (false ∷ mask) (u ∷ ts) t rest h e = shallow-first mask ts t rest h.1 e

pub subject-shallow : (mask : List Bool) (ts : List Tree) (t : Tree) → AreShallow ts → (rest : List Tree) × (outputs mask ts ≡ t ∷ rest) → depth_of t ≤ 1000
subject-shallow mask ts t h x = shallow-first mask ts t x.0 h x.1

-- the subject of an instance is the instance of the subject
module _ (subjects : Modes) (s : ℕ → Tree) (j : Judgement) where
  instances : subjects_of subjects (judgement_instance s j) ≡ map (instance s) (subjects_of subjects j)
  instances = outputs-map s (subjects j.form) j.places

  pub instance-some : (t : Tree) (made : Term) → (rest : List Tree) × (subjects_of subjects j ≡ t ∷ rest) → tree made ≡ instance s t → IsSubject (subjects_of subjects (judgement_instance s j)) (Some made)
  instance-some t made (rest, e) m = (map (instance s) rest, instances ∙ ap (map (instance s)) e ∙ ap (λ (x : Tree). x ∷ map (instance s) rest) (sym m))

  pub instance-none : subjects_of subjects j ≡ [] → subjects_of subjects (judgement_instance s j) ≡ []
  instance-none e = instances ∙ ap (map (instance s)) e

-- what a derivation derives is told by its last step
module _ (rules : List Rule) (hyps : Hypotheses) (k : Judgement) where
  pub by-concludes : (r : ℕ) (binds : List Tree) (kids : Proofs) (rule : Rule) → slice_get rules r ≡ Some rule → Derives rules hyps k (by r binds kids) → judgement_instance (bound_by binds) rule.conclusion ≡ k
  by-concludes r binds kids rule at (found, at_found, many, concluded, apart_ones, rest) =
      let same_some : Some found ≡ Some rule = sym at_found ∙ at in
      let same : found ≡ rule = cc in
      subst (λ (x : Rule). judgement_instance (bound_by binds) x.conclusion ≡ k) same concluded

  pub by-none : (r : ℕ) (binds : List Tree) (kids : Proofs) → slice_get rules r ≡ None → Derives rules hyps k (by r binds kids) → ⊥
  by-none r binds kids none (found, at_found, many, concluded, apart_ones, rest) = let q : None ≡ Some found = sym none ∙ at_found in cc

  pub given-concludes : (i : ℕ) (j : Judgement) → slice_get hyps.judgements i ≡ Some j → Derives rules hyps k (given i) → j ≡ k
  given-concludes i j at d = let q : Some j ≡ Some k = sym at ∙ d in cc

pub ok-as : {X E : Type 0} (r : Result X E) (P Q : X → Type 0) → ((x : X) → P x → Q x) → IfOk r P → IfOk r Q
ok-as (Ok x) P Q f h = f x h
ok-as (Err e) P Q f h = tt

pub given-places : (js : List Judgement) (i : ℕ) (j : Judgement) → ShallowJudgements js → slice_get js i ≡ Some j → AreShallow j.places
given-places [] i j h e = cc
given-places (x ∷ xs) zero j h e = let q : x ≡ j = cc in subst (λ (y : Judgement). AreShallow y.places) q h.0
given-places (x ∷ xs) (suc i) j h e = given-places xs i j h.1 e

-- the subject of what a derivation derives, by its last step
module _ (subjects : Modes) (rs : List RuleOf) (hyps : Hypotheses) (p : ProofOf) (k : Judgement) (d : Derives (map rule rs) hyps k (proof p)) where
  module _ (r : ℕ) (binds : Vec Term Global) (kids : Vec (Box ProofOf Global) Global) (is : p ≡ By r binds kids) where
    pub rule-subject : (terms : List Term) (found : RuleOf) (s : Option Term) → terms ≡ binds.items → slice_get (map named rs) r ≡ Some (named found) →
        IsSubject (subjects_of subjects (judgement_instance (bound_by (map tree terms)) (judgement found.conclusion))) s → IsSubject (subjects_of subjects k) s
    rule-subject terms found s same at h =
        let view = proof-at_by p r binds kids is in
        let e = by-concludes (map rule rs) hyps k r (map tree binds.items) _ (rule found) (bare-found rs r found at) (subst (λ (q : Proof). Derives (map rule rs) hyps k q) view d) in
        let f = ap (λ (xs : List Term). judgement_instance (bound_by (map tree xs)) (judgement found.conclusion)) same in
        subst (λ (j : Judgement). IsSubject (subjects_of subjects j) s) (f ∙ e) h

    pub no-rule : slice_get (map named rs) r ≡ None → ⊥
    no-rule none = by-none (map rule rs) hyps k r (map tree binds.items) _ (bare-none rs r none) (subst (λ (q : Proof). Derives (map rule rs) hyps k q) (proof-at_by p r binds kids is) d)

  module _ (i : ℕ) (is : p ≡ Given i) where
    given-derives : Derives (map rule rs) hyps k (given i)
    given-derives = subst (λ (q : ProofOf). Derives (map rule rs) hyps k (proof q)) is d

    pub given-subject : (j : Judgement) (s : Option Term) → slice_get hyps.judgements i ≡ Some j → IsSubject (subjects_of subjects j) s → IsSubject (subjects_of subjects k) s
    given-subject j s at h = subst (λ (x : Judgement). IsSubject (subjects_of subjects x) s) (given-concludes (map rule rs) hyps k i j at given-derives) h

    pub no-given : slice_get hyps.judgements i ≡ None → ⊥
    no-given none = let q : None ≡ Some k = sym none ∙ given-derives in cc
