use Rattle.std.proofs.Common.{◌≡◌, ℕ, zero, suc, ◌<◌, Bool, true, false, List, [], ◌∷◌, ◌⊎◌, inl, inr, map, length, Some, refl, sym, ap, ◌∙◌, subst, arith}
use Rattle.std.specs.Prelude.{slice_get}
use Rattle.std.proofs.lemmas.Option.{slice_get_within}
use Rattle.sx_term.specs.Tree.{Tree, Trees, node, lexeme, hole, none, ◌▹◌}
use Rattle.sx_term.specs.declared.sort.Sort.{Sort}
use Rattle.sx_rules.specs.Instances.{instance, instances, Stands, StandsInKids, StandsAmong, bound_by}
use Rattle.sx_rules.specs.Rules.{Judgement, Premise, holds, apart, Rule, Hypotheses, judgement_instance, judgements_of}
use Rattle.sx_rules.specs.Modes.{Modes, inputs, outputs, outputs_of, goal_of, AreModed, IsModed, AllModed}
use Rattle.sx_rules.specs.Derivations.{Proof, Proofs, by, given, no_more, ◌⊳◌, Derives, DeriveEach}
use Rattle.sx_term.specs.Sorts.{Shape, HasSort, KidsHaveSorts, HaveSorts}
use Rattle.sx_rules.specs.Sorts.{FormSorts, JudgementIsSorted, GoalIsSorted, PremisesAreSorted, RuleIsSorted, RulesAreSorted, JudgementsAreSorted, ProofIsSorted, ProofsAreSorted}
use Rattle.sx_rules.specs.DerivationLaws.{DerivationsAreSorted}
use Rattle.sx_rules.proofs.Moded.{inputs-map, outputs-map, moded-at}

module _ (shapes : List Shape) (vars given_vars : List Sort) (s : ℕ → Tree) where
  -- the substitution gives the variable a term of its sort
  abbrev pub IsSortedAt : ℕ → Type 0
  IsSortedAt v = (sort : Sort) → slice_get vars v ≡ Some sort → HasSort shapes given_vars (s v) sort

  mutual
    pub instance-sorted : (t : Tree) (sort : Sort) → HasSort shapes vars t sort → ((v : ℕ) → Stands v t → IsSortedAt v) → HasSort shapes given_vars (instance s t) sort
    instance-sorted (node l ts) sort h k = (h.0, h.1, h.2, instances-sorted ts h.0.kids h.3 k)
    instance-sorted (lexeme x y) sort h k = h
    instance-sorted (hole v) sort h k = k v refl sort h

    pub instances-sorted : (ts : Trees) (sorts : List Sort) → KidsHaveSorts shapes vars ts sorts → ((v : ℕ) → StandsInKids v ts → IsSortedAt v) → KidsHaveSorts shapes given_vars (instances s ts) sorts
    instances-sorted none [] h k = tt
    instances-sorted none (x ∷ xs) h k = absurd h
    instances-sorted (t ▹ ts) [] h k = absurd h
    instances-sorted (t ▹ ts) (x ∷ xs) h k = (instance-sorted t x h.0 (λ v e. k v (inl e)), instances-sorted ts xs h.1 (λ v e. k v (inr e)))

  pub map_instance-sorted : (ts : List Tree) (sorts : List Sort) → HaveSorts shapes vars ts sorts → ((v : ℕ) → StandsAmong v ts → IsSortedAt v) → HaveSorts shapes given_vars (map (instance s) ts) sorts
  map_instance-sorted [] [] h k = tt
  map_instance-sorted [] (x ∷ xs) h k = absurd h
  map_instance-sorted (t ∷ ts) [] h k = absurd h
  map_instance-sorted (t ∷ ts) (x ∷ xs) h k = (instance-sorted t x h.0 (λ v e. k v (inl e)), map_instance-sorted ts xs h.1 (λ v e. k v (inr e)))

  mutual
    pub sorted-variables : (t : Tree) (sort : Sort) → HasSort shapes vars t sort → HasSort shapes given_vars (instance s t) sort → (v : ℕ) → Stands v t → IsSortedAt v
    sorted-variables (node l ts) sort h k v e =
        let same_some : Some h.0 ≡ Some k.0 = sym h.1 ∙ k.1 in
        let same_shape : k.0 ≡ h.0 = cc in
        kids_sorted-variables ts h.0.kids h.3 (subst (λ (x : Shape). KidsHaveSorts shapes given_vars (instances s ts) x.kids) same_shape k.3) v e
    sorted-variables (lexeme x y) sort h k v e = absurd e
    sorted-variables (hole w) sort h k v e = λ other at_v.
        let same_some : Some sort ≡ Some other = sym h ∙ ap (slice_get vars) (sym e) ∙ at_v in
        let same_sort : sort ≡ other = cc in
        subst (λ (x : Tree). HasSort shapes given_vars x other) (ap s (sym e)) (subst (λ (x : Sort). HasSort shapes given_vars (s w) x) same_sort k)

    pub kids_sorted-variables : (ts : Trees) (sorts : List Sort) → KidsHaveSorts shapes vars ts sorts → KidsHaveSorts shapes given_vars (instances s ts) sorts → (v : ℕ) → StandsInKids v ts → IsSortedAt v
    kids_sorted-variables none [] h k v e = absurd e
    kids_sorted-variables none (x ∷ xs) h k v e = absurd e
    kids_sorted-variables (t ▹ ts) [] h k v e = absurd h
    kids_sorted-variables (t ▹ ts) (x ∷ xs) h k v (inl e) = sorted-variables t x h.0 k.0 v e
    kids_sorted-variables (t ▹ ts) (x ∷ xs) h k v (inr e) = kids_sorted-variables ts xs h.1 k.1 v e

  pub map_sorted-variables : (ts : List Tree) (sorts : List Sort) → HaveSorts shapes vars ts sorts → HaveSorts shapes given_vars (map (instance s) ts) sorts → (v : ℕ) → StandsAmong v ts → IsSortedAt v
  map_sorted-variables [] [] h k v e = absurd e
  map_sorted-variables [] (x ∷ xs) h k v e = absurd e
  map_sorted-variables (t ∷ ts) [] h k v e = absurd h
  map_sorted-variables (t ∷ ts) (x ∷ xs) h k v (inl e) = sorted-variables t x h.0 k.0 v e
  map_sorted-variables (t ∷ ts) (x ∷ xs) h k v (inr e) = map_sorted-variables ts xs h.1 k.1 v e

module _ (shapes : List Shape) (vars : List Sort) where
  pub inputs-sorted : (bs : List Bool) (ts : List Tree) (sorts : List Sort) → HaveSorts shapes vars ts sorts → HaveSorts shapes vars (inputs bs ts) (inputs bs sorts)
  inputs-sorted [] ts sorts h = h
  inputs-sorted (b ∷ bs) [] [] h = tt
  inputs-sorted (b ∷ bs) [] (x ∷ xs) h = absurd h
  inputs-sorted (b ∷ bs) (t ∷ ts) [] h = absurd h
  inputs-sorted (true ∷ bs) (t ∷ ts) (x ∷ xs) h = inputs-sorted bs ts xs h.1
  inputs-sorted (false ∷ bs) (t ∷ ts) (x ∷ xs) h = (h.0, inputs-sorted bs ts xs h.1)

  pub outputs-sorted : (bs : List Bool) (ts : List Tree) (sorts : List Sort) → HaveSorts shapes vars ts sorts → HaveSorts shapes vars (outputs bs ts) (outputs bs sorts)
  outputs-sorted [] ts sorts h = tt
  outputs-sorted (b ∷ bs) [] [] h = tt
  outputs-sorted (b ∷ bs) [] (x ∷ xs) h = absurd h
  outputs-sorted (b ∷ bs) (t ∷ ts) [] h = absurd h
  outputs-sorted (true ∷ bs) (t ∷ ts) (x ∷ xs) h = (h.0, outputs-sorted bs ts xs h.1)
  outputs-sorted (false ∷ bs) (t ∷ ts) (x ∷ xs) h = outputs-sorted bs ts xs h.1

  pub binds-sorted : (binds : List Tree) (sorts : List Sort) → length binds ≡ length sorts → ((v : ℕ) (sort : Sort) → slice_get sorts v ≡ Some sort → HasSort shapes vars (bound_by binds v) sort) → HaveSorts shapes vars binds sorts
  binds-sorted [] [] e h = tt
  binds-sorted [] (x ∷ xs) e h = absurd (omega arith)
  binds-sorted (t ∷ ts) [] e h = absurd (omega arith)
  binds-sorted (t ∷ ts) (x ∷ xs) e h = (h zero x refl, binds-sorted ts xs (omega arith) (λ v sort k. h (suc v) sort k))

module _ (modes : Modes) (rules : List Rule) (hyps : Hypotheses) (shapes : List Shape) (forms : FormSorts) (vars : List Sort) where
  abbrev IsSortedProof : Judgement → Proof → Type 0
  IsSortedProof j p = GoalIsSorted shapes forms modes vars (goal_of modes j) → JudgementIsSorted shapes forms vars j × ProofIsSorted shapes rules vars p

  abbrev AreSortedProofs : List Judgement → Proofs → Type 0
  AreSortedProofs [] no_more = Unit {0}
  AreSortedProofs (j ∷ js) (p ⊳ ps) = IsSortedProof j p × AreSortedProofs js ps
  AreSortedProofs _ _ = ⊥

  premises_sorted : (rule : Rule) (s : ℕ → Tree) (ps : List Premise) (kids : Proofs) (Bound : ℕ → Type 0) →
      ((v : ℕ) → Bound v → IsSortedAt shapes rule.sorts vars s v) → AreModed modes Bound ps rule → PremisesAreSorted shapes forms rule.sorts ps →
      AreSortedProofs (map (judgement_instance s) (judgements_of ps)) kids →
      ((v : ℕ) → v < length rule.sorts → IsSortedAt shapes rule.sorts vars s v) × ((v : ℕ) → StandsAmong v (outputs_of modes rule.conclusion) → IsSortedAt shapes rule.sorts vars s v) × ProofsAreSorted shapes rules vars kids
  premises_sorted rule s [] no_more Bound b m h each = (λ v k. b v ((m.1 v).1 k), λ v k. b v (m.0 v k), tt)
  premises_sorted rule s [] (p ⊳ ps) Bound b m h each = absurd each
  premises_sorted rule s (apart t u ∷ ps) kids Bound b m h each = premises_sorted rule s ps kids Bound b m.1 h.1 each
  premises_sorted rule s (holds j ∷ ps) no_more Bound b m h each = absurd each
  premises_sorted rule s (holds j ∷ ps) (q ⊳ qs) Bound b m h each =
      let bs = modes j.form in
      let sorts = forms j.form in
      let ins = map_instance-sorted shapes rule.sorts vars s (inputs bs j.places) (inputs bs sorts) (inputs-sorted shapes rule.sorts bs j.places sorts h.0) (λ v k. b v (m.0 v k)) in
      let goal_sorted = subst (λ (ts : List Tree). HaveSorts shapes vars ts (inputs bs sorts)) (sym (inputs-map s bs j.places)) ins in
      let here = each.0 goal_sorted in
      let outs = subst (λ (ts : List Tree). HaveSorts shapes vars ts (outputs bs sorts)) (outputs-map s bs j.places) (outputs-sorted shapes vars bs (map (instance s) j.places) sorts here.0) in
      let at_outputs = map_sorted-variables shapes rule.sorts vars s (outputs bs j.places) (outputs bs sorts) (outputs-sorted shapes rule.sorts bs j.places sorts h.0) outs in
      let after = premises_sorted rule s ps qs (λ v. Bound v ⊎ StandsAmong v (outputs bs j.places)) (λ v. elim [ inl k ↦ b v k | inr k ↦ at_outputs v k ]) m.1 h.1 each.1 in
      (after.0, after.1, (here.1, after.2))

  rule-sorted : (some_rules : List Rule) (r : ℕ) (rule : Rule) → RulesAreSorted shapes forms some_rules → slice_get some_rules r ≡ Some rule → RuleIsSorted shapes forms rule
  rule-sorted [] r rule h e = cc
  rule-sorted (x ∷ xs) zero rule h e = let q : x ≡ rule = cc in subst (λ (y : Rule). RuleIsSorted shapes forms y) q h.0
  rule-sorted (x ∷ xs) (suc r) rule h e = rule-sorted xs r rule h.1 e

  given-sorted : (js : List Judgement) (i : ℕ) (j : Judgement) → JudgementsAreSorted shapes forms vars js → slice_get js i ≡ Some j → JudgementIsSorted shapes forms vars j
  given-sorted [] i j h e = cc
  given-sorted (x ∷ xs) zero j h e = let q : x ≡ j = cc in subst (λ (y : Judgement). JudgementIsSorted shapes forms vars y) q h.0
  given-sorted (x ∷ xs) (suc i) j h e = given-sorted xs i j h.1 e

  rule_case : (r : ℕ) (binds : List Tree) (kids : Proofs) (rule : Rule) → slice_get rules r ≡ Some rule → length binds ≡ length rule.sorts → IsModed modes rule → RuleIsSorted shapes forms rule →
      AreSortedProofs (map (judgement_instance (bound_by binds)) (judgements_of rule.premises)) kids → IsSortedProof (judgement_instance (bound_by binds) rule.conclusion) (by r binds kids)
  rule_case r binds kids rule at_r many m h each g =
      let s = bound_by binds in
      let bs = modes rule.conclusion.form in
      let sorts = forms rule.conclusion.form in
      let places = rule.conclusion.places in
      let ins = subst (λ (ts : List Tree). HaveSorts shapes vars ts (inputs bs sorts)) (inputs-map s bs places) g in
      let at_inputs = map_sorted-variables shapes rule.sorts vars s (inputs bs places) (inputs bs sorts) (inputs-sorted shapes rule.sorts bs places sorts h.0) ins in
      let after = premises_sorted rule s rule.premises kids (λ v. StandsAmong v (inputs bs places)) at_inputs m h.1 each in (
        map_instance-sorted shapes rule.sorts vars s places sorts h.0 (λ v k. λ sort e. after.0 v (slice_get_within rule.sorts v sort e) sort e),
        (rule, at_r, binds-sorted shapes vars binds rule.sorts many (λ v sort e. after.0 v (slice_get_within rule.sorts v sort e) sort e), after.2),
      )

  module _ (moded : AllModed modes rules) (rules_sorted : RulesAreSorted shapes forms rules) (hyps_sorted : JudgementsAreSorted shapes forms vars hyps.judgements) where
    mutual
      derivation-sorted : (p : Proof) (j : Judgement) → Derives rules hyps j p → IsSortedProof j p
      derivation-sorted (given i) j h = λ g. (given-sorted hyps.judgements i j hyps_sorted h, tt)
      derivation-sorted (by r binds kids) j (rule, at_r, many, concluded, apart_ones, each) =
          subst (λ (x : Judgement). IsSortedProof x (by r binds kids)) concluded
          (rule_case r binds kids rule at_r many (moded-at modes rules r rule moded at_r) (rule-sorted rules r rule rules_sorted at_r)
          (derivations-sorted kids (map (judgement_instance (bound_by binds)) (judgements_of rule.premises)) each))

      derivations-sorted : (ps : Proofs) (js : List Judgement) → DeriveEach rules hyps js ps → AreSortedProofs js ps
      derivations-sorted no_more [] h = tt
      derivations-sorted no_more (j ∷ js) h = absurd h
      derivations-sorted (p ⊳ ps) [] h = absurd h
      derivations-sorted (p ⊳ ps) (j ∷ js) h = (derivation-sorted p j h.0, derivations-sorted ps js h.1)

pub derivations_are_sorted : DerivationsAreSorted
derivations_are_sorted modes rules hyps shapes forms vars moded rules_sorted hyps_sorted j p h =
    derivation-sorted modes rules hyps shapes forms vars moded rules_sorted hyps_sorted p j h
