-- Core texts of the terms of derivations.
use Rattle.std.proofs.Common.{◌≡◌, ℕ, zero, suc, Bool, true, false, List, [], ◌∷◌, ◌⊎◌, inl, inr, map, Some, refl, sym, subst}
use Rattle.std.specs.Prelude.{slice_get}
use Rattle.sx_term.specs.Tree.{Tree, Trees, node, lexeme, hole, none, ◌▹◌}
use Rattle.sx_term.specs.Core.{HasCore, HaveCore}
use Rattle.sx_rules.specs.Instances.{instance, instances, Stands, StandsInKids, StandsAmong, bound_by}
use Rattle.sx_rules.specs.Rules.{Judgement, Premise, holds, apart, Rule, Hypotheses, judgement_instance, judgements_of}
use Rattle.sx_rules.specs.Modes.{Modes, inputs, outputs, inputs_of, outputs_of, Goal, AreModed, IsModed, AllModed}
use Rattle.sx_rules.specs.Derivations.{Proof, Proofs, by, given, no_more, ◌⊳◌, Derives, DeriveEach}
use Rattle.sx_rules.specs.Writable.{HaveTexts, JudgementsHaveTexts, PremisesHaveTexts, RulesHaveTexts}
use Rattle.sx_rules.specs.DerivationLaws.{OutputsHaveTexts}
use Rattle.sx_rules.proofs.Moded.{inputs-map, outputs-map, moded-at}

module _ (s : ℕ → Tree) where
  -- the instance of a term with a core text has one, where what is put for its variables have some
  mutual
    pub instance-texts : (t : Tree) → HasCore t → ((v : ℕ) → Stands v t → HasCore (s v)) → HasCore (instance s t)
    instance-texts (node l ts) h k = (h.0, instances-texts ts h.1 k)
    instance-texts (lexeme x y) h k = h
    instance-texts (hole v) h k = k v refl

    instances-texts : (ts : Trees) → HaveCore ts → ((v : ℕ) → StandsInKids v ts → HasCore (s v)) → HaveCore (instances s ts)
    instances-texts none h k = tt
    instances-texts (t ▹ ts) h k = (instance-texts t h.0 (λ v e. k v (inl e)), instances-texts ts h.1 (λ v e. k v (inr e)))

  pub map_instance-texts : (ts : List Tree) → HaveTexts ts → ((v : ℕ) → StandsAmong v ts → HasCore (s v)) → HaveTexts (map (instance s) ts)
  map_instance-texts [] h k = tt
  map_instance-texts (t ∷ ts) h k = (instance-texts t h.0 (λ v e. k v (inl e)), map_instance-texts ts h.1 (λ v e. k v (inr e)))

  -- where the instance of a term has a core text, so has what is put for each of its variables
  mutual
    pub text-variables : (t : Tree) → HasCore (instance s t) → (v : ℕ) → Stands v t → HasCore (s v)
    text-variables (node l ts) h v e = texts-variables ts h.1 v e
    text-variables (lexeme x y) h v e = absurd e
    text-variables (hole w) h v e = subst (λ (u : ℕ). HasCore (s u)) (sym e) h

    texts-variables : (ts : Trees) → HaveCore (instances s ts) → (v : ℕ) → StandsInKids v ts → HasCore (s v)
    texts-variables none h v e = absurd e
    texts-variables (t ▹ ts) h v (inl e) = text-variables t h.0 v e
    texts-variables (t ▹ ts) h v (inr e) = texts-variables ts h.1 v e

  pub map_text-variables : (ts : List Tree) → HaveTexts (map (instance s) ts) → (v : ℕ) → StandsAmong v ts → HasCore (s v)
  map_text-variables [] h v e = absurd e
  map_text-variables (t ∷ ts) h v (inl e) = text-variables t h.0 v e
  map_text-variables (t ∷ ts) h v (inr e) = map_text-variables ts h.1 v e

pub inputs-texts : (bs : List Bool) (ts : List Tree) → HaveTexts ts → HaveTexts (inputs bs ts)
inputs-texts [] ts h = h
inputs-texts (b ∷ bs) [] h = tt
inputs-texts (true ∷ bs) (t ∷ ts) h = inputs-texts bs ts h.1
inputs-texts (false ∷ bs) (t ∷ ts) h = (h.0, inputs-texts bs ts h.1)

pub outputs-texts : (bs : List Bool) (ts : List Tree) → HaveTexts ts → HaveTexts (outputs bs ts)
outputs-texts [] ts h = tt
outputs-texts (b ∷ bs) [] h = tt
outputs-texts (true ∷ bs) (t ∷ ts) h = (h.0, outputs-texts bs ts h.1)
outputs-texts (false ∷ bs) (t ∷ ts) h = outputs-texts bs ts h.1

module _ (modes : Modes) (rules : List Rule) (hyps : Hypotheses) where
  -- where the inputs of the judgement have core texts, so have its outputs
  abbrev OutputsFollow : Judgement → Type 0
  OutputsFollow j = HaveTexts (inputs_of modes j) → HaveTexts (outputs_of modes j)

  abbrev EachFollows : List Judgement → Proofs → Type 0
  EachFollows [] no_more = Unit {0}
  EachFollows (j ∷ js) (p ⊳ ps) = OutputsFollow j × EachFollows js ps
  EachFollows _ _ = ⊥

  premises_text : (rule : Rule) (s : ℕ → Tree) (ps : List Premise) (kids : Proofs) (Bound : ℕ → Type 0) →
      ((v : ℕ) → Bound v → HasCore (s v)) → AreModed modes Bound ps rule → PremisesHaveTexts ps →
      EachFollows (map (judgement_instance s) (judgements_of ps)) kids →
      (v : ℕ) → StandsAmong v (outputs_of modes rule.conclusion) → HasCore (s v)
  premises_text rule s [] no_more Bound b m h each = λ v k. b v (m.0 v k)
  premises_text rule s [] (p ⊳ ps) Bound b m h each = absurd each
  premises_text rule s (apart t u ∷ ps) kids Bound b m h each = premises_text rule s ps kids Bound b m.1 h each
  premises_text rule s (holds j ∷ ps) no_more Bound b m h each = absurd each
  premises_text rule s (holds j ∷ ps) (q ⊳ qs) Bound b m h each =
      let bs = modes j.form in
      let ins = map_instance-texts s (inputs bs j.places) (inputs-texts bs j.places h.0) (λ v k. b v (m.0 v k)) in
      let outs = each.0 (subst (λ (ts : List Tree). HaveTexts ts) (sym (inputs-map s bs j.places)) ins) in
      let at_outputs = map_text-variables s (outputs bs j.places) (subst (λ (ts : List Tree). HaveTexts ts) (outputs-map s bs j.places) outs) in
      premises_text rule s ps qs (λ v. Bound v ⊎ StandsAmong v (outputs bs j.places)) (λ v. elim [ inl k ↦ b v k | inr k ↦ at_outputs v k ]) m.1 h.1 each.1

  rule-texts : (some_rules : List Rule) (r : ℕ) (rule : Rule) → RulesHaveTexts some_rules → slice_get some_rules r ≡ Some rule → PremisesHaveTexts rule.premises × HaveTexts rule.conclusion.places
  rule-texts [] r rule h e = cc
  rule-texts (x ∷ xs) zero rule h e = let q : x ≡ rule = cc in subst (λ (y : Rule). PremisesHaveTexts y.premises × HaveTexts y.conclusion.places) q h.0
  rule-texts (x ∷ xs) (suc r) rule h e = rule-texts xs r rule h.1 e

  given-texts : (js : List Judgement) (i : ℕ) (j : Judgement) → JudgementsHaveTexts js → slice_get js i ≡ Some j → HaveTexts j.places
  given-texts [] i j h e = cc
  given-texts (x ∷ xs) zero j h e = let q : x ≡ j = cc in subst (λ (y : Judgement). HaveTexts y.places) q h.0
  given-texts (x ∷ xs) (suc i) j h e = given-texts xs i j h.1 e

  rule_case : (binds : List Tree) (kids : Proofs) (rule : Rule) → IsModed modes rule → PremisesHaveTexts rule.premises × HaveTexts rule.conclusion.places →
      EachFollows (map (judgement_instance (bound_by binds)) (judgements_of rule.premises)) kids → OutputsFollow (judgement_instance (bound_by binds) rule.conclusion)
  rule_case binds kids rule m h each g =
      let s = bound_by binds in
      let bs = modes rule.conclusion.form in
      let places = rule.conclusion.places in
      let at_inputs = map_text-variables s (inputs bs places) (subst (λ (ts : List Tree). HaveTexts ts) (inputs-map s bs places) g) in
      let at_outputs = premises_text rule s rule.premises kids (λ v. StandsAmong v (inputs bs places)) at_inputs m h.0 each in
      subst (λ (ts : List Tree). HaveTexts ts) (sym (outputs-map s bs places)) (map_instance-texts s (outputs bs places) (outputs-texts bs places h.1) at_outputs)

  module _ (moded : AllModed modes rules) (rules_texts : RulesHaveTexts rules) (hyps_texts : JudgementsHaveTexts hyps.judgements) where
    mutual
      follows : (p : Proof) (j : Judgement) → Derives rules hyps j p → OutputsFollow j
      follows (given i) j h = λ g. outputs-texts (modes j.form) j.places (given-texts hyps.judgements i j hyps_texts h)
      follows (by r binds kids) j (rule, at_r, many, concluded, apart_ones, each) =
          subst (λ (x : Judgement). OutputsFollow x) concluded
          (rule_case binds kids rule (moded-at modes rules r rule moded at_r) (rule-texts rules r rule rules_texts at_r)
          (each_follows kids (map (judgement_instance (bound_by binds)) (judgements_of rule.premises)) each))

      each_follows : (ps : Proofs) (js : List Judgement) → DeriveEach rules hyps js ps → EachFollows js ps
      each_follows no_more [] h = tt
      each_follows no_more (j ∷ js) h = absurd h
      each_follows (p ⊳ ps) [] h = absurd h
      each_follows (p ⊳ ps) (j ∷ js) h = (follows p j h.0, each_follows ps js h.1)

pub outputs_have_texts : OutputsHaveTexts
outputs_have_texts modes rules hyps moded rules_texts hyps_texts goal answer g (j, is_goal, is_outs, h) =
    subst (λ (ts : List Tree). HaveTexts ts) is_outs
    (follows modes rules hyps moded rules_texts hyps_texts answer.0 j h (subst (λ (x : Goal). HaveTexts x.terms) (sym is_goal) g))
