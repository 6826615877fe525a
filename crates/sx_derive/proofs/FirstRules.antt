-- The events of a goal that no hypothesis is, from its first rule that fits on.
use Rattle.std.proofs.Common.{◌≡◌, ℕ, suc, ◌+◌, ◌≤◌, ◌&&◌, ◌⊎◌, inl, inr, Bool, true, false, List, [], ◌∷◌, ◌++◌, map, drop, length, Option, Some, None, refl, sym, ap, ◌∙◌, arith, subst}
use Rattle.std.specs.Prelude.{slice_get, nat_eq}
use Rattle.std.proofs.lemmas.Bool.Decides.{Decides-eqb}
use Rattle.sx_rules.specs.Derivations.{given}
use Rattle.sx_rules.specs.Rules.{Judgement, Rule, Hypotheses}
use Rattle.sx_rules.specs.Modes.{Modes, inputs_of, outputs_of, Goal}
use Rattle.sx_arena.specs.Arena.{tree_at, AreBelow}
use Rattle.sx_arena.specs.Binds.{env_at}
use Rattle.sx_arena.specs.Facts.{IsFact, AreFacts}
use Rattle.sx_arena.specs.Matching.{Assignment, nothing_bound, match_all, match_when, same_all}
use Rattle.sx_arena.specs.declared.fact.Fact.{Fact}
use Rattle.sx_arena.proofs.Arenas.{distinct}
use Rattle.sx_arena.proofs.Sameness.{same_all_true}
use Rattle.sx_derive.specs.Candidates.{goal_in}
use Rattle.sx_derive.specs.Descents.{IsFirstRule, HasInputs, IsFirstFact}
use Rattle.sx_derive.specs.Failing.{PremisesFail, RulesFail}
use Rattle.sx_derive.specs.Store.{IsStore, store_trees, store_envs}
use Rattle.sx_derive.specs.Stuck.{rule_match}
use Rattle.sx_derive.specs.Walk.{Event, try, give, Answer, tries_then, when, when_matched, after_match}
use Rattle.sx_derive.specs.Walk.{rule_events, rules_events, given_event, given_events, goal_events}
use Rattle.sx_derive.specs.declared.store.Store.{Store}
use Rattle.sx_derive.proofs.Tries.{tries-append}
use Rattle.sx_derive.proofs.Tried.{terms_same}

-- a rule's number and a chain
abbrev found_at : ℕ → ℕ → Option (ℕ × ℕ)
found_at r env = Some (r, env)

abbrev number_at : Option (ℕ × ℕ) → ℕ
number_at None = 0
number_at (Some p) = p.0

abbrev env_found : Option (ℕ × ℕ) → ℕ
env_found None = 0
env_found (Some p) = p.1

-- what follows where the inputs match, and where they do not
matched_none : {A : Type 0} (b : Bool) (m : Option Assignment) (f : Assignment → List (Event A)) → match_when b m ≡ None → when b (when_matched m f) ≡ []
matched_none false m f e = refl
matched_none true None f e = refl
matched_none true (Some env) f e = cc

matched_some : {A : Type 0} (b : Bool) (m : Option Assignment) (f : Assignment → List (Event A)) (env : Assignment) → match_when b m ≡ Some env → when b (when_matched m f) ≡ f env
matched_some false m f env e = cc
matched_some true None f env e = cc
matched_some true (Some more) f env e = let same_env : more ≡ env = cc in ap f same_env

module _ (modes : Modes) (rules : List Rule) (hyps : Hypotheses) (below : Goal → List (Event Answer)) (Below : Goal → List ℕ → Type 0) (s : Store) (goal : Goal) where
  rule_none : (r : ℕ) (rule : Rule) → rule_match modes rule goal ≡ None → rule_events modes hyps below r rule goal ≡ []
  rule_none r rule e = matched_none (nat_eq rule.conclusion.form goal.form) (match_all (inputs_of modes rule.conclusion) goal.terms nothing_bound) (after_match modes hyps below r rule) e

  rule_some : (r : ℕ) (rule : Rule) (env : Assignment) → rule_match modes rule goal ≡ Some env → rule_events modes hyps below r rule goal ≡ after_match modes hyps below r rule env
  rule_some r rule env e = matched_some (nat_eq rule.conclusion.form goal.form) (match_all (inputs_of modes rule.conclusion) goal.terms nothing_bound) (after_match modes hyps below r rule) env e

  -- the first of the rules from number r on that fits
  pub record FirstRule (r : ℕ) (rs : List Rule) (number env : ℕ) : Type 0 where
    pub rule : Rule
    pub place : ℕ
    pub number_is : number ≡ r + place
    pub found : slice_get rs place ≡ Some rule
    pub within : env ≤ length s.binds.cells.items
    pub events : rules_events modes hyps below r rs goal
        ≡ tries_then (suc place) (after_match modes hyps below number rule (env_at (store_envs s) env) ++ rules_events modes hyps below (suc number) (drop (suc place) rs) goal)
    pub fails : (k : ℕ) (ks : List ℕ) → PremisesFail modes rules hyps Below below 0 k ks rule.premises (env_at (store_envs s) env) → RulesFail modes rules hyps Below below k ks rs goal

  pub first_rule : (r : ℕ) (rs : List Rule) (number env : ℕ) → IsFirstRule modes s goal r rs (Some (number, env)) → FirstRule r rs number env
  first_rule r [] number env h = absurd (let z : ⊥ = cc in z)
  first_rule r (rule ∷ rs) number env h = go h (λ k. first_rule (suc r) rs number env k)
    where
      go : ((e : ℕ) × (found_at number env ≡ found_at r e) × (e ≤ length s.binds.cells.items) × (rule_match modes rule goal ≡ Some (env_at (store_envs s) e))) ⊎ (rule_match modes rule goal ≡ None) × IsFirstRule modes s goal (suc r) rs (Some (number, env)) →
          (IsFirstRule modes s goal (suc r) rs (Some (number, env)) → FirstRule (suc r) rs number env) → FirstRule r (rule ∷ rs) number env
      go (inl x) rec =
          let same_number : number ≡ r = ap number_at x.1 in
          let same_env : env ≡ x.0 = ap env_found x.1 in
          let m : rule_match modes rule goal ≡ Some (env_at (store_envs s) env) = x.3 ∙ ap (λ e. Some (env_at (store_envs s) e)) (sym same_env) in
          record {
            rule = rule;
            place = 0;
            number_is = (omega arith);
            found = refl;
            within = (let l = x.2 in omega arith);
            events = (λ i. try ∷ (rule_some r rule (env_at (store_envs s) env) m i ++ rules_events modes hyps below (suc r) rs goal))
                ∙ (λ i. try ∷ (after_match modes hyps below (sym same_number i) rule (env_at (store_envs s) env) ++ rules_events modes hyps below (suc (sym same_number i)) rs goal));
            fails = λ k ks f. (
              λ e n. (let q : env_at (store_envs s) env ≡ e = cc in subst (λ (x : Assignment). PremisesFail modes rules hyps Below below 0 k ks rule.premises x) q f),
              λ n. (let z : ⊥ = cc in absurd z),
            );
          }
      go (inr x) rec =
          let w = rec x.1 in
          record {
            rule = w.rule;
            place = suc w.place;
            number_is = (let e = w.number_is in omega arith);
            found = w.found;
            within = w.within;
            events = (λ i. try ∷ (rule_none r rule x.0 i ++ rules_events modes hyps below (suc r) rs goal)) ∙ ap (λ es. try ∷ es) w.events;
            fails = λ k ks f. (
              λ e n. (let z : ⊥ = cc in absurd z),
              λ n. w.fails k ks f,
            );
          }

-- no hypothesis gives anything
module _ (modes : Modes) (rules : List Rule) (s : Store) (form : ℕ) (terms : List ℕ) (h : IsStore modes rules s) (below : AreBelow (length (store_trees s)) terms) where
  and_left : (x y : Bool) → (x && y) ≡ true → x ≡ true
  and_left true y e = refl
  and_left false y e = cc

  and_right : (x y : Bool) → (x && y) ≡ true → y ≡ true
  and_right true y e = e
  and_right false y e = cc

  given_none : (i : ℕ) (j : Judgement) (f : Fact) → IsFact modes (store_trees s) j f → (HasInputs form terms f → ⊥) → given_event modes i j (goal_in s form terms) ≡ []
  given_none i j f a n = go (nat_eq j.form form && same_all (inputs_of modes j) (map (tree_at (store_trees s)) terms)) refl
    where
      go : (b : Bool) → (nat_eq j.form form && same_all (inputs_of modes j) (map (tree_at (store_trees s)) terms)) ≡ b → given_event modes i j (goal_in s form terms) ≡ []
      go false e = ap (λ (b : Bool). when b (give (given i, outputs_of modes j) ∷ [])) e
      go true e =
          let x = and_left (nat_eq j.form form) (same_all (inputs_of modes j) (map (tree_at (store_trees s)) terms)) e in
          let y = and_right (nat_eq j.form form) (same_all (inputs_of modes j) (map (tree_at (store_trees s)) terms)) e in
          let k : f.form ≡ form = a.form ∙ (Decides-eqb j.form form).0 x in
          let t : map (tree_at (store_trees s)) f.inputs.items ≡ map (tree_at (store_trees s)) terms = a.inputs ∙ same_all_true (inputs_of modes j) (map (tree_at (store_trees s)) terms) y in
          absurd (n (k, terms_same (store_trees s) (distinct s.arena.cells h.arena) f.inputs.items terms a.inputs_below below t))

  pub no_given_events : (i : ℕ) (js : List Judgement) (fs : List Fact) → AreFacts modes (store_trees s) js fs → IsFirstFact form terms fs None → given_events modes i js (goal_in s form terms) ≡ tries_then (length js) []
  no_given_events i [] [] a x = refl
  no_given_events i [] (f ∷ fs) a x = absurd a
  no_given_events i (j ∷ js) [] a x = absurd a
  no_given_events i (j ∷ js) (f ∷ fs) a x = go x (λ y. no_given_events (suc i) js fs a.1 y)
    where
      go : HasInputs form terms f × (None ≡ Some f) ⊎ (HasInputs form terms f → ⊥) × IsFirstFact form terms fs None →
          (IsFirstFact form terms fs None → given_events modes (suc i) js (goal_in s form terms) ≡ tries_then (length js) []) → given_events modes i (j ∷ js) (goal_in s form terms) ≡ tries_then (suc (length js)) []
      go (inl y) rec = let e = y.1 in let z : ⊥ = cc in absurd z
      go (inr y) rec = (λ k. try ∷ (given_none i j f a.0 y.0 k ++ given_events modes (suc i) js (goal_in s form terms))) ∙ ap (λ es. try ∷ es) (rec y.1)

-- the events of the goal from the premises of the rule on
pub goal_from_rule : (modes : Modes) (rules : List Rule) (hyps : Hypotheses) (levels : ℕ) (Below : Goal → List ℕ → Type 0) (s : Store) (goal : Goal) (number env : ℕ) (w : FirstRule modes rules hyps (goal_events modes rules hyps levels) Below s goal 0 rules number env) →
    given_events modes 0 hyps.judgements goal ≡ tries_then (length hyps.judgements) [] →
    goal_events modes rules hyps (suc levels) goal
    ≡ tries_then (length hyps.judgements) (tries_then (suc w.place) (after_match modes hyps (goal_events modes rules hyps levels) number w.rule (env_at (store_envs s) env)
    ++ rules_events modes hyps (goal_events modes rules hyps levels) (suc number) (drop (suc w.place) rules) goal))
unfolding goal_events
goal_from_rule modes rules hyps levels Below s goal number env w e =
    (λ i. e i ++ rules_events modes hyps (goal_events modes rules hyps levels) 0 rules goal)
    ∙ tries-append (length hyps.judgements) [] (rules_events modes hyps (goal_events modes rules hyps levels) 0 rules goal)
    ∙ ap (tries_then (length hyps.judgements)) w.events
