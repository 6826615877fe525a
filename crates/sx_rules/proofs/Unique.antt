use Rattle.std.proofs.Common.{◌≡◌, ℕ, ◌<◌, List, [], ◌∷◌, ◌++◌, ◌⊎◌, inl, inr, map, length, Some, refl, sym, ap, ◌∙◌, subst, arith, append_assoc}
use Rattle.std.specs.Prelude.{slice_get}
use Rattle.std.proofs.lemmas.List.{ext_get_or}
use Rattle.sx_term.specs.Tree.{Tree, node, none}
use Rattle.sx_rules.specs.Instances.{StandsAmong, bound_by}
use Rattle.sx_rules.specs.Rules.{Judgement, Premise, holds, apart, Rule, Hypotheses, judgement_instance, judgements_of}
use Rattle.sx_rules.specs.Modes.{Modes, inputs_of, outputs_of, Goal, goal_of, AreModed, AllModed}
use Rattle.sx_rules.specs.Derivations.{Proof, Proofs, by, given, no_more, ◌⊳◌, Derives, DeriveEach}
use Rattle.sx_rules.specs.Orders.{Entry, order_of, order_of_all}
use Rattle.sx_rules.specs.DerivationLaws.{OrderIsUnique}
use Rattle.sx_rules.proofs.Instancing.{map_instance-same, map_instance-determines}
use Rattle.sx_rules.proofs.Moded.{inputs-map, outputs-map, moded-at}

binds_same : (n : ℕ) (bs cs : List Tree) → length bs ≡ n → length cs ≡ n → ((v : ℕ) → v < n → bound_by bs v ≡ bound_by cs v) → bs ≡ cs
binds_same n bs cs e f h = ext_get_or (node 0 none) bs cs (e ∙ sym f) (λ v k. h v (omega arith))

module _ (modes : Modes) (rules : List Rule) (hyps : Hypotheses) where
  -- no other derivation of the goal begins in its order with that of the proof
  abbrev IsAlone : Judgement → Proof → Type 0
  IsAlone j p =
      (q : Proof) (k : Judgement) → Derives rules hyps k q → goal_of modes j ≡ goal_of modes k →
      (more rest : List Entry) → order_of p ++ more ≡ order_of q ++ rest → (p ≡ q) × (j ≡ k) × (more ≡ rest)

  abbrev AreAlone : List Judgement → Proofs → Type 0
  AreAlone [] no_more = Unit {0}
  AreAlone (j ∷ js) (p ⊳ ps) = IsAlone j p × AreAlone js ps
  AreAlone _ _ = ⊥

  record Same (rule : Rule) (s r : ℕ → Tree) (ks ls : Proofs) (more rest : List Entry) : Type 0 where
    kids : ks ≡ ls
    variables : (v : ℕ) → v < length rule.sorts → s v ≡ r v
    left_over : more ≡ rest

  premises_same : (rule : Rule) (s r : ℕ → Tree) (ps : List Premise) (ks ls : Proofs) (Bound : ℕ → Type 0) → ((v : ℕ) → Bound v → s v ≡ r v) → AreModed modes Bound ps rule →
      AreAlone (map (judgement_instance s) (judgements_of ps)) ks → DeriveEach rules hyps (map (judgement_instance r) (judgements_of ps)) ls →
      (more rest : List Entry) → order_of_all ks ++ more ≡ order_of_all ls ++ rest → Same rule s r ks ls more rest
  premises_same rule s r [] no_more no_more Bound b m alone each more rest e =
      record { kids = refl; variables = λ v h. b v ((m.1 v).1 h); left_over = e }
  premises_same rule s r [] no_more (l ⊳ ls) Bound b m alone each more rest e = absurd each
  premises_same rule s r [] (k ⊳ ks) ls Bound b m alone each more rest e = absurd alone
  premises_same rule s r (apart t u ∷ ps) ks ls Bound b m alone each more rest e = premises_same rule s r ps ks ls Bound b m.1 alone each more rest e
  premises_same rule s r (holds j ∷ ps) no_more ls Bound b m alone each more rest e = absurd alone
  premises_same rule s r (holds j ∷ ps) (k ⊳ ks) no_more Bound b m alone each more rest e = absurd each
  premises_same rule s r (holds j ∷ ps) (k ⊳ ks) (l ⊳ ls) Bound b m alone each more rest e =
      let same_terms : inputs_of modes (judgement_instance s j) ≡ inputs_of modes (judgement_instance r j) =
      inputs-map s (modes j.form) j.places ∙ map_instance-same s r (inputs_of modes j) (λ v h. b v (m.0 v h)) ∙ sym (inputs-map r (modes j.form) j.places) in
      let same_goal = ap (λ (ts : List Tree). let g : Goal = record { form = j.form; terms = ts } in g) same_terms in
      let e' = sym (append_assoc (order_of k) (order_of_all ks) more) ∙ e ∙ append_assoc (order_of l) (order_of_all ls) rest in
      let here = alone.0 l (judgement_instance r j) each.0 same_goal (order_of_all ks ++ more) (order_of_all ls ++ rest) e' in
      let same_outputs = sym (outputs-map s (modes j.form) j.places) ∙ ap (outputs_of modes) here.1 ∙ outputs-map r (modes j.form) j.places in
      let after = premises_same rule s r ps ks ls (λ v. Bound v ⊎ StandsAmong v (outputs_of modes j))
      (λ v. elim [ inl h ↦ b v h | inr h ↦ map_instance-determines s r (outputs_of modes j) same_outputs v h ]) m.1 alone.1 each.1 more rest here.2 in
      let same_kid : k ≡ l = here.0 in
      let same_kids : ks ≡ ls = after.kids in
      record { kids = cc; variables = after.variables; left_over = after.left_over }

  module _ (moded : AllModed modes rules) where
    given_alone : (i : ℕ) (j : Judgement) → slice_get hyps.judgements i ≡ Some j → IsAlone j (given i)
    given_alone i j h (given l) k d g more rest e =
        let same_number : i ≡ l = cc in
        let same_rest : more ≡ rest = cc in
        let same_judgement : Some j ≡ Some k = sym h ∙ ap (slice_get hyps.judgements) same_number ∙ d in
        (ap given same_number, cc, same_rest)
    given_alone i j h (by r binds ks) k d g more rest e = cc

    rule_alone : (r : ℕ) (binds : List Tree) (ks : Proofs) (rule : Rule) → slice_get rules r ≡ Some rule → length binds ≡ length rule.sorts →
        AreAlone (map (judgement_instance (bound_by binds)) (judgements_of rule.premises)) ks → IsAlone (judgement_instance (bound_by binds) rule.conclusion) (by r binds ks)
    rule_alone r binds ks rule at_r many alone (given l) k d g more rest e = cc
    rule_alone r binds ks rule at_r many alone (by c others ls) k (rule', at_c, many', concluded, apart_ones, each) g more rest e =
        let s = bound_by binds in
        let t = bound_by others in
        let same_number : r ≡ c = cc in
        let same_orders : order_of_all ks ++ more ≡ order_of_all ls ++ rest = cc in
        let same_some : Some rule ≡ Some rule' = sym at_r ∙ ap (slice_get rules) same_number ∙ at_c in
        let same_rule : rule' ≡ rule = cc in
        let concluded' : judgement_instance t rule.conclusion ≡ k = sym (ap (λ (x : Rule). judgement_instance t x.conclusion) same_rule) ∙ concluded in
        let goals : goal_of modes (judgement_instance s rule.conclusion) ≡ goal_of modes (judgement_instance t rule.conclusion) = g ∙ sym (ap (goal_of modes) concluded') in
        let terms = sym (inputs-map s (modes rule.conclusion.form) rule.conclusion.places) ∙ ap (λ (x : Goal). x.terms) goals ∙ inputs-map t (modes rule.conclusion.form) rule.conclusion.places in
        let same = premises_same rule s t rule.premises ks ls (λ v. StandsAmong v (inputs_of modes rule.conclusion))
        (map_instance-determines s t (inputs_of modes rule.conclusion) terms) (moded-at modes rules r rule moded at_r) alone
        (subst (λ (x : Rule). DeriveEach rules hyps (map (judgement_instance t) (judgements_of x.premises)) ls) same_rule each) more rest same_orders in
        let same_binds : binds ≡ others = binds_same (length rule.sorts) binds others many (many' ∙ ap (λ (x : Rule). length x.sorts) same_rule) same.variables in
        let same_kids : ks ≡ ls = same.kids in
        (cc, ap (λ (x : List Tree). judgement_instance (bound_by x) rule.conclusion) same_binds ∙ concluded', same.left_over)

    mutual
      alone : (p : Proof) (j : Judgement) → Derives rules hyps j p → IsAlone j p
      alone (given i) j h = given_alone i j h
      alone (by r binds ks) j (rule, at_r, many, concluded, apart_ones, each) =
          subst (λ (x : Judgement). IsAlone x (by r binds ks)) concluded
          (rule_alone r binds ks rule at_r many (each_alone ks (map (judgement_instance (bound_by binds)) (judgements_of rule.premises)) each))

      each_alone : (ps : Proofs) (js : List Judgement) → DeriveEach rules hyps js ps → AreAlone js ps
      each_alone no_more [] h = tt
      each_alone no_more (j ∷ js) h = absurd h
      each_alone (p ⊳ ps) [] h = absurd h
      each_alone (p ⊳ ps) (j ∷ js) h = (alone p j h.0, each_alone ps js h.1)

pub order_is_unique : OrderIsUnique
order_is_unique modes rules hyps moded goal p q (j, gj, oj, dj) (k, gk, ok, dk) more rest e =
    let h = alone modes rules hyps moded p.0 j dj q.0 k dk (gj ∙ sym gk) more rest e in
    let same_outputs = sym oj ∙ ap (outputs_of modes) h.1 ∙ ok in
    (λ i. (h.0 i, same_outputs i), h.2)
