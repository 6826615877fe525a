-- A derivation by a rule is one whose premises are passed to the end.
use Rattle.std.proofs.Common.{◌≡◌, ℕ, ◌<◌, List, [], ◌∷◌, ◌++◌, ◌⊎◌, inl, inr, map, length, Option, Some, refl, sym, ap, ◌∙◌, subst}
use Rattle.std.specs.Prelude.{slice_get, nat_eq}
use Rattle.std.proofs.lemmas.Bool.{eq-eqb}
use Rattle.sx_term.specs.Tree.{Tree}
use Rattle.sx_rules.specs.Instances.{instance, StandsAmong, bound_by}
use Rattle.sx_rules.specs.Rules.{Judgement, Premise, holds, apart, Rule, Hypotheses}
use Rattle.sx_rules.specs.Rules.{judgement_instance, judgements_of, AreApart, AllApart}
use Rattle.sx_rules.specs.Modes.{Modes, inputs_of, outputs_of, Goal, goal_of, AreModed, AllModed}
use Rattle.sx_rules.specs.Derivations.{Proofs, by, no_more, ◌⊳◌, Derives, DeriveEach}
use Rattle.sx_rules.specs.First.{DerivesGoal}
use Rattle.sx_rules.proofs.Instancing.{instance-same, map_instance-same}
use Rattle.sx_rules.proofs.Moded.{inputs-map, outputs-map, judgement_known, goal_same, moded-at}
use Rattle.sx_arena.specs.Matching.{Assignment, nothing_bound, match_when, match_all, value_or}
use Rattle.sx_arena.specs.Matching.{filled, IsBound, ExtendsAssignment, Agrees}
use Rattle.sx_arena.specs.Limits.{first_values}
use Rattle.sx_arena.proofs.Sameness.{nat_same}
use Rattle.sx_arena.proofs.Matchings.{when_true, match_all-matches, match_all_found, stays-bound}
use Rattle.sx_arena.proofs.Filled.{filled-instance, filled-inputs, filled-outputs, filled-goal, first_values-at, length-first_values}
use Rattle.sx_replay.specs.Fronts.{asked_of, concluded_of, entry_match, made_in, made_below}
use Rattle.sx_replay.specs.Fronts.{ArePassed}

unbound_agrees : (s : ℕ → Tree) → Agrees nothing_bound s
unbound_agrees s v u e = cc

agrees_filled : (env : Assignment) → Agrees env (filled env)
agrees_filled env v u e = ap value_or e

-- the bindings at a rule whose conclusion's instance has the goal
pub rule_bindings : (modes : Modes) (rule : Rule) (s : ℕ → Tree) → (env : Assignment) × (entry_match modes rule (goal_of modes (judgement_instance s rule.conclusion)) ≡ Some env) × Agrees env s
    × ((v : ℕ) → StandsAmong v (inputs_of modes rule.conclusion) → IsBound env v)
rule_bindings modes rule s =
    let patterns = inputs_of modes rule.conclusion in
    let terms = inputs_of modes (judgement_instance s rule.conclusion) in
    let m = match_all_found patterns terms nothing_bound s (unbound_agrees s) (sym (inputs-map s (modes rule.conclusion.form) rule.conclusion.places)) in
    let k = match_all-matches patterns terms nothing_bound m.0 m.1 in
    (m.0, ap (λ b. match_when b (match_all patterns terms nothing_bound)) (eq-eqb rule.conclusion.form rule.conclusion.form refl) ∙ m.1, m.2, k.every)

-- what a moded rule binds are its variables
bound_within : (modes : Modes) (rule : Rule) (ps : List Premise) (Bound : ℕ → Type 0) → AreModed modes Bound ps rule → (v : ℕ) → Bound v → v < length rule.sorts
bound_within modes rule [] Bound m v h = (m.1 v).0 h
bound_within modes rule (apart t u ∷ ps) Bound m v h = bound_within modes rule ps Bound m.1 v h
bound_within modes rule (holds j ∷ ps) Bound m v h = bound_within modes rule ps (λ w. Bound w ⊎ StandsAmong w (outputs_of modes j)) m.1 v (inl h)

outputs_within : (modes : Modes) (rule : Rule) (ps : List Premise) (Bound : ℕ → Type 0) → AreModed modes Bound ps rule → (v : ℕ) → StandsAmong v (outputs_of modes rule.conclusion) → v < length rule.sorts
outputs_within modes rule [] Bound m v h = (m.1 v).0 (m.0 v h)
outputs_within modes rule (apart t u ∷ ps) Bound m v h = outputs_within modes rule ps Bound m.1 v h
outputs_within modes rule (holds j ∷ ps) Bound m v h = outputs_within modes rule ps (λ w. Bound w ⊎ StandsAmong w (outputs_of modes j)) m.1 v h

module _ (modes : Modes) (rules : List Rule) (hyps : Hypotheses) where
  -- the premises passed to the end, under bindings that agree with a substitution
  record Passing (rule : Rule) (s : ℕ → Tree) (ps : List Premise) (env : Assignment) (kids : Proofs) : Type 0 where
    last : Assignment
    passed : ArePassed modes rules hyps ps env kids (made_below modes rules (judgements_of ps) s kids) [] last
    outs : outputs_of modes (judgement_instance (filled last) rule.conclusion) ≡ outputs_of modes (judgement_instance s rule.conclusion)

  premises_pass : (rule : Rule) (s : ℕ → Tree) (ps : List Premise) (kids : Proofs) (env : Assignment) (Bound : ℕ → Type 0) →
      Agrees env s → ((v : ℕ) → Bound v → IsBound env v) → AreModed modes Bound ps rule → AllApart hyps s ps →
      DeriveEach rules hyps (map (judgement_instance s) (judgements_of ps)) kids → Passing rule s ps env kids
  premises_pass rule s [] (q ⊳ qs) env Bound a b m apart_ones each = absurd each
  premises_pass rule s [] no_more env Bound a b m apart_ones each = record {
    last = env;
    passed = (refl, refl, refl);
    outs = filled-outputs modes env s a rule.conclusion (λ v h. b v (m.0 v h));
  }
  premises_pass rule s (apart t u ∷ ps) kids env Bound a b m apart_ones each =
      let et = filled-instance env s a t (λ v k. b v (m.0 v (inl k))) in
      let eu = filled-instance env s a u (λ v k. b v (m.0 v (inr k))) in
      let ok = subst (λ (x : Tree). AreApart hyps x (instance (filled env) u)) (sym et) (subst (λ (x : Tree). AreApart hyps (instance s t) x) (sym eu) apart_ones.0) in
      let x = premises_pass rule s ps kids env Bound a b m.1 apart_ones.1 each in
      record { last = x.last; passed = (ok, x.passed); outs = x.outs }
  premises_pass rule s (holds j ∷ ps) no_more env Bound a b m apart_ones each = absurd each
  premises_pass rule s (holds j ∷ ps) (q ⊳ qs) env Bound a b m apart_ones each =
      let same_goal = filled-goal modes env s a j (λ v k. b v (m.0 v k)) in
      let same_inputs = filled-inputs modes env s a j (λ v k. b v (m.0 v k)) in
      let patterns = outputs_of modes j in
      let outs = outputs_of modes (judgement_instance s j) in
      let n = match_all_found patterns outs env s a (sym (outputs-map s (modes j.form) j.places)) in
      let k = match_all-matches patterns outs env n.0 n.1 in
      let x = premises_pass rule s ps qs n.0 (λ v. Bound v ⊎ StandsAmong v patterns) n.2
      (λ v. elim [ inl x ↦ stays-bound env n.0 k.extends v (b v x) | inr x ↦ k.every v x ]) m.1 apart_ones each.1 in
      let later = made_below modes rules (judgements_of ps) s qs in
      record {
        last = x.last;
        passed = (
          outs,
          (judgement_instance s j, sym same_goal, refl, each.0),
          (n.0, n.1, (later, ap (λ (ts : List Tree). ts ++ (made_in modes rules q ++ later)) (sym same_inputs), x.passed)),
        );
        outs = x.outs;
      }

  -- a derivation of the goal by a rule, by its passed premises
  pub record Passes (goal : Goal) (r : ℕ) (kids : Proofs) (outs terms : List Tree) : Type 0 where
    pub rule : Rule
    pub at_r : slice_get rules r ≡ Some rule
    pub env : Assignment
    pub matches : entry_match modes rule goal ≡ Some env
    pub last : Assignment
    pub before : List Tree
    pub passed : ArePassed modes rules hyps rule.premises env kids before [] last
    pub concluded : outputs_of modes (judgement_instance (filled last) rule.conclusion) ≡ outs
    pub terms_are : terms ≡ before ++ outs

  module _ (moded : AllModed modes rules) where
    pub derivation_passes : (goal : Goal) (r : ℕ) (binds : List Tree) (kids : Proofs) (outs : List Tree) → DerivesGoal modes rules hyps goal (by r binds kids, outs) →
        Passes goal r kids outs (made_in modes rules (by r binds kids))
    derivation_passes goal r binds kids outs (j, same_goal, same_outs, (rule, at_r, many, concluded, apart_ones, each)) =
        let s = bound_by binds in
        let b = rule_bindings modes rule s in
        let goals : goal_of modes (judgement_instance s rule.conclusion) ≡ goal = ap (goal_of modes) concluded ∙ same_goal in
        let x = premises_pass rule s rule.premises kids b.0 (λ v. StandsAmong v (inputs_of modes rule.conclusion)) b.2 b.3 (moded-at modes rules r rule moded at_r) apart_ones each in
        let outputs : outputs_of modes (judgement_instance s rule.conclusion) ≡ outs = ap (outputs_of modes) concluded ∙ same_outs in
        record {
          rule = rule;
          at_r = at_r;
          env = b.0;
          matches = ap (entry_match modes rule) (sym goals) ∙ b.1;
          last = x.last;
          before = made_below modes rules (judgements_of rule.premises) s kids;
          passed = x.passed;
          concluded = x.outs ∙ outputs;
          terms_are = ap (λ (o : Option Rule). made_below modes rules (asked_of o) s kids ++ concluded_of modes o s) at_r
              ∙ ap (λ (ts : List Tree). made_below modes rules (judgements_of rule.premises) s kids ++ ts) outputs;
        }

  -- bindings stay while premises are passed
  passed_extends : (ps : List Premise) (env : Assignment) (kids : Proofs) (terms : List Tree) (rest : List Premise) (last : Assignment) → ArePassed modes rules hyps ps env kids terms rest last → ExtendsAssignment env last
  passed_extends [] env no_more terms rest last h = λ v u e. ap (λ (g : Assignment). g v) h.2 ∙ e
  passed_extends [] env (p ⊳ kids) terms rest last h = absurd h
  passed_extends (apart t u ∷ ps) env kids terms rest last h = passed_extends ps env kids terms rest last h.1
  passed_extends (holds j ∷ ps) env no_more terms rest last h = λ v u e. ap (λ (g : Assignment). g v) h.2 ∙ e
  passed_extends (holds j ∷ ps) env (p ⊳ kids) terms rest last (outs, d, (more, m, (later, is, h))) =
      let k = match_all-matches (outputs_of modes j) outs env more m in
      let x = passed_extends ps more kids later rest last h in
      λ v u e. x v u (k.extends v u e)

  -- a bound variable has its value at the end, among the first ones
  same_value : (n : ℕ) (env last : Assignment) → ExtendsAssignment env last → (v : ℕ) → IsBound env v → v < n → filled env v ≡ bound_by (first_values n (filled last)) v
  same_value n env last x v (u, e) l = ap value_or (e ∙ sym (x v u e)) ∙ sym (first_values-at n (filled last) v l)

  record Derived (s : ℕ → Tree) (ps : List Premise) (kids : Proofs) (terms : List Tree) : Type 0 where
    apart_ones : AllApart hyps s ps
    each : DeriveEach rules hyps (map (judgement_instance s) (judgements_of ps)) kids
    made : terms ≡ made_below modes rules (judgements_of ps) s kids

  passed_derive : (rule : Rule) (ps : List Premise) (env : Assignment) (kids : Proofs) (terms : List Tree) (last : Assignment) (Bound : ℕ → Type 0) →
      ((v : ℕ) → Bound v → IsBound env v) → AreModed modes Bound ps rule → ArePassed modes rules hyps ps env kids terms [] last →
      Derived (bound_by (first_values (length rule.sorts) (filled last))) ps kids terms
  passed_derive rule [] env no_more terms last Bound b m h = record { apart_ones = tt; each = tt; made = h.0 }
  passed_derive rule [] env (p ⊳ kids) terms last Bound b m h = absurd h
  passed_derive rule (apart t u ∷ ps) env kids terms last Bound b m h =
      let n = length rule.sorts in
      let s = bound_by (first_values n (filled last)) in
      let x = passed_extends ps env kids terms [] last h.1 in
      let w = bound_within modes rule ps Bound m.1 in
      let et = instance-same (filled env) s t (λ v k. same_value n env last x v (b v (m.0 v (inl k))) (w v (m.0 v (inl k)))) in
      let eu = instance-same (filled env) s u (λ v k. same_value n env last x v (b v (m.0 v (inr k))) (w v (m.0 v (inr k)))) in
      let d = passed_derive rule ps env kids terms last Bound b m.1 h.1 in
      record {
        apart_ones = (subst (λ (y : Tree). AreApart hyps y (instance s u)) et (subst (λ (y : Tree). AreApart hyps (instance (filled env) t) y) eu h.0), d.apart_ones);
        each = d.each;
        made = d.made;
      }
  passed_derive rule (holds j ∷ ps) env no_more terms last Bound b m h = let q = h.1 in cc
  passed_derive rule (holds j ∷ ps) env (p ⊳ kids) terms last Bound b m (outs, (k, same_goal, same_outs, derives), (more, found, (later, is, h))) =
      let n = length rule.sorts in
      let s = bound_by (first_values n (filled last)) in
      let patterns = outputs_of modes j in
      let mm = match_all-matches patterns outs env more found in
      let x = passed_extends ps more kids later [] last h in
      let xe : ExtendsAssignment env last = λ v u e. x v u (mm.extends v u e) in
      let w = bound_within modes rule ps (λ v. Bound v ⊎ StandsAmong v patterns) m.1 in
      let ins : inputs_of modes (judgement_instance (filled env) j) ≡ inputs_of modes (judgement_instance s j) =
      inputs-map (filled env) (modes j.form) j.places
      ∙ map_instance-same (filled env) s (inputs_of modes j) (λ v i. same_value n env last xe v (b v (m.0 v i)) (w v (inl (m.0 v i))))
      ∙ sym (inputs-map s (modes j.form) j.places) in
      let goals : goal_of modes (judgement_instance (filled env) j) ≡ goal_of modes (judgement_instance s j) = ap (λ (ts : List Tree). let g : Goal = record { form = j.form; terms = ts } in g) ins in
      let os : outputs_of modes (judgement_instance s j) ≡ outs =
      outputs-map s (modes j.form) j.places
      ∙ sym (map_instance-same (filled more) s patterns (λ v i. same_value n more last x v (mm.every v i) (w v (inr i))))
      ∙ mm.instance_is (filled more) (agrees_filled more) in
      let kj : k ≡ judgement_instance s j = judgement_known modes k (judgement_instance s j) (same_goal ∙ goals) (same_outs ∙ sym os) in
      let d = passed_derive rule ps more kids later last (λ v. Bound v ⊎ StandsAmong v patterns)
      (λ v. elim [ inl y ↦ stays-bound env more mm.extends v (b v y) | inr y ↦ mm.every v y ]) m.1 h in
      record {
        apart_ones = d.apart_ones;
        each = (subst (λ (y : Judgement). Derives rules hyps y p) kj derives, d.each);
        made = is ∙ (λ i. ins i ++ (made_in modes rules p ++ d.made i));
      }

  -- what the passed premises of a rule conclude
  pub record Concludes (goal : Goal) (r : ℕ) (kids : Proofs) (outs terms : List Tree) : Type 0 where
    pub binds : List Tree
    pub derives : DerivesGoal modes rules hyps goal (by r binds kids, outs)
    pub made : made_in modes rules (by r binds kids) ≡ terms

  module _ (moded : AllModed modes rules) where
    pub passes_derive : (goal : Goal) (r : ℕ) (rule : Rule) (kids : Proofs) (env last : Assignment) (before : List Tree) → slice_get rules r ≡ Some rule → entry_match modes rule goal ≡ Some env →
        ArePassed modes rules hyps rule.premises env kids before [] last →
        Concludes goal r kids (outputs_of modes (judgement_instance (filled last) rule.conclusion)) (before ++ outputs_of modes (judgement_instance (filled last) rule.conclusion))
    passes_derive goal r rule kids env last before at_r matches passed =
        let n = length rule.sorts in
        let values = first_values n (filled last) in
        let s = bound_by values in
        let patterns = inputs_of modes rule.conclusion in
        let m = moded-at modes rules r rule moded at_r in
        let w = when_true (nat_eq rule.conclusion.form goal.form) (match_all patterns goal.terms nothing_bound) env matches in
        let mm = match_all-matches patterns goal.terms nothing_bound env w.1 in
        let x = passed_extends rule.premises env kids before [] last passed in
        let within = bound_within modes rule rule.premises (λ v. StandsAmong v patterns) m in
        let d = passed_derive rule rule.premises env kids before last (λ v. StandsAmong v patterns) mm.every m passed in
        let ins : inputs_of modes (judgement_instance s rule.conclusion) ≡ goal.terms =
        inputs-map s (modes rule.conclusion.form) rule.conclusion.places
        ∙ sym (map_instance-same (filled env) s patterns (λ v i. same_value n env last x v (mm.every v i) (within v i)))
        ∙ mm.instance_is (filled env) (agrees_filled env) in
        let os : outputs_of modes (judgement_instance s rule.conclusion) ≡ outputs_of modes (judgement_instance (filled last) rule.conclusion) =
        outputs-map s (modes rule.conclusion.form) rule.conclusion.places
        ∙ map_instance-same s (filled last) (outputs_of modes rule.conclusion) (λ v i. first_values-at n (filled last) v (outputs_within modes rule rule.premises (λ u. StandsAmong u patterns) m v i))
        ∙ sym (outputs-map (filled last) (modes rule.conclusion.form) rule.conclusion.places) in
        let form : rule.conclusion.form ≡ goal.form = nat_same rule.conclusion.form goal.form w.0 in
        record {
          binds = values;
          derives = (
            judgement_instance s rule.conclusion,
            goal_same (goal_of modes (judgement_instance s rule.conclusion)) goal form ins,
            os,
            (rule, at_r, length-first_values n (filled last), refl, d.apart_ones, d.each),
          );
          made = ap (λ (o : Option Rule). made_below modes rules (asked_of o) s kids ++ concluded_of modes o s) at_r
              ∙ (λ i. sym d.made i ++ os i);
        }
