-- The first candidate of a goal, and where it leads.
use Rattle.std.proofs.Common.{◌≡◌, ◌≢◌, ℕ, zero, suc, ◌+◌, ◌<◌, ◌≤◌, List, [], ◌∷◌, ◌++◌, ◌⊎◌, inl, inr, map, drop, length, Option, Some, None, Vec, refl, sym, ap, ◌∙◌, arith, subst}
use Rattle.std.specs.Prelude.{slice_get, nat_eq, Result, Ok, Err, IfOk, OnOk}
use Rattle.std.specs.declared.alloc.Global.{Global}
use Rattle.std.proofs.lemmas.Bool.{cases_lt}
use Rattle.sx_rules.specs.Rules.{Judgement, Rule, Hypotheses}
use Rattle.sx_rules.specs.Modes.{Modes, inputs_of, Goal, goal_of}
use Rattle.sx_arena.specs.Arena.{trees, tree_at, AreBelow}
use Rattle.sx_arena.specs.Binds.{env_at, BindsGrow, IsChainFit}
use Rattle.sx_arena.specs.Facts.{IsFact, AreFacts}
use Rattle.sx_arena.specs.Matching.{nothing_bound, match_all}
use Rattle.sx_arena.specs.declared.fact.Fact.{Fact}
use Rattle.sx_arena.specs.declared.pairs.Pair.{Pair}
use Rattle.sx_arena.proofs.Arenas.{distinct, below_more, maps_same}
use Rattle.sx_arena.proofs.Growing.{extends-length}
use Rattle.sx_derive.specs.Candidates.{goal_in}
use Rattle.sx_derive.specs.Descents.{AreHyps, spot_goal, PremisesLead, RulesLead, IsDescent}
use Rattle.sx_derive.specs.Descents.{PremisesFailAlong, RulesFailAlong, IsFirstRule, HasInputs}
use Rattle.sx_derive.specs.Descents.{IsFirstFact}
use Rattle.sx_derive.specs.Failing.{FailsAlong, PremisesFail, RulesFail}
use Rattle.sx_derive.specs.Quiet.{IsQuiet}
use Rattle.sx_derive.specs.Store.{IsStore, StoreGrows, store_trees, store_envs}
use Rattle.sx_derive.specs.Stuck.{no_rule, mismatch, Blame, rule_match, PremisesStuck, RulesStuck}
use Rattle.sx_derive.specs.Stuck.{GivensStuck, IsStuck}
use Rattle.sx_derive.specs.Walk.{Event, Answer, premise_events, conclude, after_match, rule_events}
use Rattle.sx_derive.specs.Walk.{rules_events, given_events, goal_events}
use Rattle.sx_derive.specs.declared.descent.Descent.{Descent}
use Rattle.sx_derive.specs.declared.descent.Descent.TheVariants.{Stuck, Below}
use Rattle.sx_derive.specs.declared.descent.Reason.TheVariants.{NoRule, Mismatch}
use Rattle.sx_derive.specs.declared.descent.Spot.{Spot}
use Rattle.sx_derive.specs.declared.store.Store.{Store}
use Rattle.sx_derive.proofs.Descended.{spot_stays, hyps_stay}
use Rattle.sx_derive.proofs.Quiet.{quiet_left, quiet_right, quiet_each, quiet_try, quiet_rule}
use Rattle.sx_derive.proofs.Stored.{grows_same, grows_then, grows_binds}
use Rattle.sx_derive.proofs.Tried.{terms_same}

-- a rule's number and a chain
abbrev found_at : ℕ → ℕ → Option (ℕ × ℕ)
found_at r env = Some (r, env)

abbrev number_at : Option (ℕ × ℕ) → ℕ
number_at None = 0
number_at (Some p) = p.0

abbrev env_found : Option (ℕ × ℕ) → ℕ
env_found None = 0
env_found (Some p) = p.1

-- what holds before the rule with the number
pub record Leading (modes : Modes) (rules : List Rule) (goal : Goal) (old now : Store) (number : ℕ) : Type 0 where
  pub grows : StoreGrows modes rules old now
  pub leads : (s : Store) (x : Option (ℕ × ℕ)) → IsFirstRule modes s goal number (drop number rules) x → IsFirstRule modes s goal 0 rules x

plus_one : (k : ℕ) → suc k ≡ k + 1
plus_one k = omega arith

drop_here : (rules : List Rule) (n : ℕ) (rule : Rule) → slice_get rules n ≡ Some rule → drop n rules ≡ rule ∷ drop (suc n) rules
drop_here [] n rule e = cc
drop_here (r ∷ rules) zero rule e = let q : r ≡ rule = cc in ap (λ x. x ∷ rules) q
drop_here (r ∷ rules) (suc n) rule e = drop_here rules n rule e

drop_rule : (rules : List Rule) (n : ℕ) (rule : Rule) → slice_get rules n ≡ Some rule → drop n rules ≡ rule ∷ drop (n + 1) rules
drop_rule rules n rule e = drop_here rules n rule e ∙ ap (λ k. rule ∷ drop k rules) (plus_one n)

drop_past : (rules : List Rule) (n : ℕ) → length rules ≤ n → drop n rules ≡ []
drop_past [] zero l = refl
drop_past [] (suc n) l = refl
drop_past (r ∷ rules) zero l = absurd (omega arith)
drop_past (r ∷ rules) (suc n) l = drop_past rules n (omega arith)

pub not_within : (m n : ℕ) → (m < n → ⊥) → n ≤ m
not_within m n h = go (cases_lt m n)
  where
    go : (m < n) ⊎ (n ≤ m) → n ≤ m
    go (inl l) = absurd (h l)
    go (inr l) = l

pub rule_within : (rules : List Rule) (n : ℕ) (rule : Rule) → slice_get rules n ≡ Some rule → n < length rules
rule_within [] n rule e = cc
rule_within (r ∷ rules) zero rule e = omega arith
rule_within (r ∷ rules) (suc n) rule e = let k = rule_within rules n rule e in omega arith

module _ (modes : Modes) (rules : List Rule) (form : ℕ) (terms : List ℕ) (old : Store) (below : AreBelow (length (store_trees old)) terms) where
  abbrev sought : Goal
  sought = goal_in old form terms

  pub leading_first : IsStore modes rules old → Leading modes rules sought old old 0
  leading_first h = record { grows = grows_same modes rules old h; leads = λ s x e. e }

  module _ (mid new : Store) (number : ℕ) (h : Leading modes rules sought old mid number) where
    pub leading_below : AreBelow (length (store_trees mid)) terms
    leading_below = below_more (length (store_trees old)) (length (store_trees mid)) (extends-length (store_trees old) (store_trees mid) h.grows.trees) terms below

    sought_stays : goal_in mid form terms ≡ sought
    sought_stays = λ i. record { form = form; terms = maps_same (store_trees old) (store_trees mid) h.grows.trees terms below i }

    module _ (rule : Rule) (e : slice_get rules number ≡ Some rule) (g : StoreGrows modes rules mid new) where
      pub rule_fits : (env : ℕ) → IsChainFit (store_trees new) new.binds (rule_match modes rule (goal_in mid form terms)) (Some env) → IsFirstRule modes new sought 0 rules (Some (number, env))
      rule_fits env f =
          h.leads new (Some (number, env)) (subst (λ (rs : List Rule). IsFirstRule modes new sought number rs (Some (number, env))) (sym (drop_rule rules number rule e))
          (inl (env, refl, f.0, ap (rule_match modes rule) (sym sought_stays) ∙ f.1)))

      pub rule_differs : IsChainFit (store_trees new) new.binds (rule_match modes rule (goal_in mid form terms)) None → Leading modes rules sought old new (number + 1)
      rule_differs f = record {
        grows = grows_then modes rules old mid new h.grows g;
        leads = λ s x k. h.leads s x (subst (λ (rs : List Rule). IsFirstRule modes s sought number rs x) (sym (drop_rule rules number rule e))
            (inr (ap (rule_match modes rule) (sym sought_stays) ∙ f, subst (λ (n : ℕ). IsFirstRule modes s sought n (drop (number + 1) rules) x) (sym (plus_one number)) k)));
      }

    pub rules_end : length rules ≤ number → IsFirstRule modes mid sought 0 rules None
    rules_end l = h.leads mid None (subst (λ (rs : List Rule). IsFirstRule modes mid sought number rs None) (sym (drop_past rules number l)) refl)

module _ (modes subjects : Modes) (rules : List Rule) (hyps : Hypotheses) (budget levels : ℕ) (s : Store) (goal : Goal) (path : List ℕ) where
  abbrev Under : Goal → List ℕ → Blame → Type 0
  Under g p blame = IsStuck modes subjects rules hyps levels g p blame

  abbrev below_events : Goal → List (Event Answer)
  below_events g = goal_events modes rules hyps levels g

  -- no rule's inputs match
  pub none_leads : (r : ℕ) (rs : List Rule) → IsFirstRule modes s goal r rs None → RulesStuck modes subjects rules hyps Under r rs goal path (record { goal = goal; path = path; reason = no_rule })
  none_leads r [] h = refl
  none_leads r (rule ∷ rs) h = go h (λ k. none_leads (suc r) rs k)
    where
      go : ((env : ℕ) × (None ≡ found_at r env) × (env ≤ length s.binds.cells.items) × (rule_match modes rule goal ≡ Some (env_at (store_envs s) env))) ⊎ (rule_match modes rule goal ≡ None) × IsFirstRule modes s goal (suc r) rs None →
          (IsFirstRule modes s goal (suc r) rs None → RulesStuck modes subjects rules hyps Under (suc r) rs goal path (record { goal = goal; path = path; reason = no_rule })) →
          RulesStuck modes subjects rules hyps Under r (rule ∷ rs) goal path (record { goal = goal; path = path; reason = no_rule })
      go (inl x) rec = let e = x.1 in cc
      go (inr x) rec = inr (x.0, rec x.1)

  -- the first rule whose inputs match
  pub record RuleLeads (r : ℕ) (rs : List Rule) (number env : ℕ) : Type 0 where
    pub rule : Rule
    pub place : ℕ
    pub number_is : number ≡ r + place
    pub found : slice_get rs place ≡ Some rule
    pub within : env ≤ length s.binds.cells.items
    pub quiet : IsQuiet budget (rules_events modes hyps below_events r rs goal) → IsQuiet budget (premise_events modes hyps below_events rule.premises (env_at (store_envs s) env))
    pub fails : (k : ℕ) (ks : List ℕ) → RulesFail modes rules hyps (FailsAlong modes rules hyps levels) (goal_events modes rules hyps levels) k ks rs goal →
        PremisesFail modes rules hyps (FailsAlong modes rules hyps levels) (goal_events modes rules hyps levels) 0 k ks rule.premises (env_at (store_envs s) env)
    pub leads : (blame : Blame) → PremisesStuck modes subjects rules hyps Under number rule goal path 0 rule.premises (env_at (store_envs s) env) blame → RulesStuck modes subjects rules hyps Under r rs goal path blame

  pub rule_leads : (r : ℕ) (rs : List Rule) (number env : ℕ) → IsFirstRule modes s goal r rs (Some (number, env)) → RuleLeads r rs number env
  rule_leads r [] number env h = absurd (let z : ⊥ = cc in z)
  rule_leads r (rule ∷ rs) number env h = go h (λ k. rule_leads (suc r) rs number env k)
    where
      go : ((e : ℕ) × (found_at number env ≡ found_at r e) × (e ≤ length s.binds.cells.items) × (rule_match modes rule goal ≡ Some (env_at (store_envs s) e))) ⊎ (rule_match modes rule goal ≡ None) × IsFirstRule modes s goal (suc r) rs (Some (number, env)) →
          (IsFirstRule modes s goal (suc r) rs (Some (number, env)) → RuleLeads (suc r) rs number env) → RuleLeads r (rule ∷ rs) number env
      go (inl x) rec =
          let same_number : number ≡ r = ap number_at x.1 in
          let same_env : env ≡ x.0 = ap env_found x.1 in
          let m : rule_match modes rule goal ≡ Some (env_at (store_envs s) env) = x.3 ∙ ap (λ e. Some (env_at (store_envs s) e)) (sym same_env) in
          record {
            rule = rule;
            place = 0;
            number_is = (omega arith);
            found = refl;
            within = (let l = x.2 in omega arith);
            quiet = λ h. quiet_each budget (conclude modes r rule) (premise_events modes hyps below_events rule.premises (env_at (store_envs s) env))
                (quiet_rule budget (nat_eq rule.conclusion.form goal.form) (match_all (inputs_of modes rule.conclusion) goal.terms nothing_bound) (after_match modes hyps below_events r rule) (env_at (store_envs s) env) m
                (quiet_left budget (rule_events modes hyps below_events r rule goal) (rules_events modes hyps below_events (suc r) rs goal)
                (quiet_try budget (rule_events modes hyps below_events r rule goal ++ rules_events modes hyps below_events (suc r) rs goal) h)));
            fails = λ k ks h. h.0 (env_at (store_envs s) env) m;
            leads = λ blame h. inl (env_at (store_envs s) env, m, subst (λ (n : ℕ). PremisesStuck modes subjects rules hyps Under n rule goal path 0 rule.premises (env_at (store_envs s) env) blame) same_number h);
          }
      go (inr x) rec =
          let w = rec x.1 in
          record {
            rule = w.rule;
            place = suc w.place;
            number_is = (let e = w.number_is in omega arith);
            found = w.found;
            within = w.within;
            quiet = λ h. w.quiet (quiet_right budget (rule_events modes hyps below_events r rule goal) (rules_events modes hyps below_events (suc r) rs goal)
                (quiet_try budget (rule_events modes hyps below_events r rule goal ++ rules_events modes hyps below_events (suc r) rs goal) h));
            fails = λ k ks h. w.fails k ks (h.1 x.0);
            leads = λ blame h. inr (x.0, w.leads blame h);
          }

-- facts
module _ (modes subjects : Modes) (rules : List Rule) (hyps : Hypotheses) (s : Store) (form : ℕ) (terms : List ℕ) (path : List ℕ) (h : IsStore modes rules s) (below : AreBelow (length (store_trees s)) terms) where
  fact_is : (j : Judgement) (f : Fact) → IsFact modes (store_trees s) j f → HasInputs form terms f → goal_of modes j ≡ goal_in s form terms
  fact_is j f a x =
      let e : inputs_of modes j ≡ map (tree_at (store_trees s)) terms = sym a.inputs ∙ ap (map (tree_at (store_trees s))) x.1 in
      let k : j.form ≡ form = sym a.form ∙ x.0 in
      λ i. record { form = k i; terms = e i }

  fact_differs : (j : Judgement) (f : Fact) → IsFact modes (store_trees s) j f → (HasInputs form terms f → ⊥) → goal_of modes j ≢ goal_in s form terms
  fact_differs j f a n e =
      let k : f.form ≡ form = a.form ∙ ap (λ (g : Goal). g.form) e in
      let t : map (tree_at (store_trees s)) f.inputs.items ≡ map (tree_at (store_trees s)) terms = a.inputs ∙ ap (λ (g : Goal). g.terms) e in
      n (k, terms_same (store_trees s) (distinct s.arena.cells h.arena) f.inputs.items terms a.inputs_below below t)

  pub fact_leads : (AmongRules : Type 0) (js : List Judgement) (fs : List Fact) (f : Fact) → AreFacts modes (store_trees s) js fs → IsFirstFact form terms fs (Some f) →
      AreBelow (length (store_trees s)) f.outputs.items × GivensStuck modes subjects rules hyps AmongRules js (goal_in s form terms) path (record { goal = goal_in s form terms; path = path; reason = mismatch None (map (tree_at (store_trees s)) f.outputs.items) })
  fact_leads AmongRules [] [] f a x = absurd (let z : ⊥ = cc in z)
  fact_leads AmongRules [] (g ∷ fs) f a x = absurd a
  fact_leads AmongRules (j ∷ js) [] f a x = absurd a
  fact_leads AmongRules (j ∷ js) (g ∷ fs) f a x = go x (λ y. fact_leads AmongRules js fs f a.1 y)
    where
      go : HasInputs form terms g × (Some f ≡ Some g) ⊎ (HasInputs form terms g → ⊥) × IsFirstFact form terms fs (Some f) →
          (IsFirstFact form terms fs (Some f) → AreBelow (length (store_trees s)) f.outputs.items × GivensStuck modes subjects rules hyps AmongRules js (goal_in s form terms) path (record { goal = goal_in s form terms; path = path; reason = mismatch None (map (tree_at (store_trees s)) f.outputs.items) })) →
          AreBelow (length (store_trees s)) f.outputs.items × GivensStuck modes subjects rules hyps AmongRules (j ∷ js) (goal_in s form terms) path (record { goal = goal_in s form terms; path = path; reason = mismatch None (map (tree_at (store_trees s)) f.outputs.items) })
      go (inl y) rec =
          let q : f ≡ g = (let e = y.1 in cc) in
          let k = subst (λ (z : Fact). IsFact modes (store_trees s) j z) (sym q) a.0 in
          (k.outputs_below, inl (fact_is j g a.0 y.0, λ i. record { goal = goal_in s form terms; path = path; reason = mismatch None (k.outputs i) }))
      go (inr y) rec =
          let w = rec y.1 in
          (w.0, inr (fact_differs j g a.0 y.0, w.1))

  pub no_fact_leads : (AmongRules : Type 0) (js : List Judgement) (fs : List Fact) (blame : Blame) → AreFacts modes (store_trees s) js fs → IsFirstFact form terms fs None → AmongRules →
      GivensStuck modes subjects rules hyps AmongRules js (goal_in s form terms) path blame
  no_fact_leads AmongRules [] [] blame a x r = r
  no_fact_leads AmongRules [] (g ∷ fs) blame a x r = absurd a
  no_fact_leads AmongRules (j ∷ js) [] blame a x r = absurd a
  no_fact_leads AmongRules (j ∷ js) (g ∷ fs) blame a x r = go x (λ y. no_fact_leads AmongRules js fs blame a.1 y r)
    where
      go : HasInputs form terms g × (None ≡ Some g) ⊎ (HasInputs form terms g → ⊥) × IsFirstFact form terms fs None →
          (IsFirstFact form terms fs None → GivensStuck modes subjects rules hyps AmongRules js (goal_in s form terms) path blame) → GivensStuck modes subjects rules hyps AmongRules (j ∷ js) (goal_in s form terms) path blame
      go (inl y) rec = let e = y.1 in cc
      go (inr y) rec = inr (fact_differs j g a.0 y.0, rec y.1)

-- a descent that leads to fewer leads to more
pub descent_weaker : (modes subjects : Modes) (rules : List Rule) (hyps : Hypotheses) (budget levels : ℕ) (s : Store) (notes : List ℕ) (P Q : Blame → Type 0) → ((blame : Blame) → P blame → Q blame) → (d : Descent) →
    IsDescent modes subjects rules hyps budget levels s notes P d → IsDescent modes subjects rules hyps budget levels s notes Q d
descent_weaker modes subjects rules hyps budget levels s notes P Q w (Stuck spot reason) x = (x.0, x.1, w _ x.2)
descent_weaker modes subjects rules hyps budget levels s notes P Q w (Below spot) x = (x.0, x.1, x.2, x.3, λ blame h. w blame (x.4 blame h))

-- the events of the rules of a goal are quiet
pub quiet_rules : (modes : Modes) (rules : List Rule) (hyps : Hypotheses) (budget levels : ℕ) (goal : Goal) → IsQuiet budget (goal_events modes rules hyps (suc levels) goal) → IsQuiet budget (rules_events modes hyps (goal_events modes rules hyps levels) 0 rules goal)
unfolding goal_events
quiet_rules modes rules hyps budget levels goal q = quiet_right budget (given_events modes 0 hyps.judgements goal) (rules_events modes hyps (goal_events modes rules hyps levels) 0 rules goal) q

-- a goal is stuck at a hypothesis, or where the rules lead
module _ (modes subjects : Modes) (rules : List Rule) (hyps : Hypotheses) (levels : ℕ) (s : Store) (facts : List Fact) (pairs : List Pair) (spot : Spot) (h : IsStore modes rules s) (are : AreHyps modes s facts pairs hyps) (below : AreBelow (length (store_trees s)) spot.terms.items) where
  pub stuck_at_fact : (budget : ℕ) (notes : List ℕ) (f : Fact) (got : Vec ℕ Global) → IsFirstFact spot.form spot.terms.items facts (Some f) → got.items ≡ f.outputs.items →
      IsDescent modes subjects rules hyps budget levels s notes (IsStuck modes subjects rules hyps (suc levels) (spot_goal s spot) spot.path.items) (Stuck spot (Mismatch None got))
  unfolding IsStuck
  stuck_at_fact budget notes f got x e =
      let w = λ (AmongRules : Type 0). fact_leads modes subjects rules hyps s spot.form spot.terms.items spot.path.items h below AmongRules hyps.judgements facts f are.facts_are x in
      let b : Blame = record { goal = spot_goal s spot; path = spot.path.items; reason = mismatch None (map (tree_at (store_trees s)) got.items) } in
      let c : Blame = record { goal = spot_goal s spot; path = spot.path.items; reason = mismatch None (map (tree_at (store_trees s)) f.outputs.items) } in
      let same_blame : c ≡ b = (λ i. record { goal = spot_goal s spot; path = spot.path.items; reason = mismatch None (map (tree_at (store_trees s)) (sym e i)) }) in (
        below,
        subst (λ is. AreBelow (length (store_trees s)) is) (sym e) (w (Unit {0})).0,
        subst (λ (z : Blame). GivensStuck modes subjects rules hyps (RulesStuck modes subjects rules hyps (IsStuck modes subjects rules hyps levels) 0 rules (spot_goal s spot) spot.path.items z) hyps.judgements (spot_goal s spot) spot.path.items z) same_blame
            (w (RulesStuck modes subjects rules hyps (IsStuck modes subjects rules hyps levels) 0 rules (spot_goal s spot) spot.path.items c)).1,
      )

  pub stuck_at_rules : IsFirstFact spot.form spot.terms.items facts None → (blame : Blame) → RulesStuck modes subjects rules hyps (IsStuck modes subjects rules hyps levels) 0 rules (spot_goal s spot) spot.path.items blame →
      IsStuck modes subjects rules hyps (suc levels) (spot_goal s spot) spot.path.items blame
  unfolding IsStuck
  stuck_at_rules x blame r =
      no_fact_leads modes subjects rules hyps s spot.form spot.terms.items spot.path.items h below (RulesStuck modes subjects rules hyps (IsStuck modes subjects rules hyps levels) 0 rules (spot_goal s spot) spot.path.items blame) hyps.judgements facts blame are.facts_are x r

-- more bindings
pub fit_grows : {A E : Type 0} (modes : Modes) (rules : List Rule) (s t : Store) → IsStore modes rules s → t.arena ≡ s.arena → t.kids.items ≡ s.kids.items → t.frames.items ≡ s.frames.items → t.until ≡ s.until →
    (r : Result A E) → OnOk r (BindsGrow (trees s.arena) s.binds t.binds) → IfOk r (λ x. StoreGrows modes rules s t)
fit_grows modes rules s t h a k f u (Ok x) g = grows_binds modes rules s t h g a k f u
fit_grows modes rules s t h a k f u (Err e) g = tt

-- what is known after the first rule was sought
module _ (modes subjects : Modes) (rules : List Rule) (hyps : Hypotheses) (budget levels : ℕ) (old new : Store) (facts : List Fact) (pairs : List Pair) (spot : Spot) (are : AreHyps modes old facts pairs hyps) (below : AreBelow (length (store_trees old)) spot.terms.items) (g : StoreGrows modes rules old new) where
  pub sought_none : (notes : List ℕ) → IsFirstRule modes new (spot_goal old spot) 0 rules None → IsDescent modes subjects rules hyps budget levels new notes (RulesLead modes subjects rules hyps budget levels (spot_goal old spot) spot.path.items) (Stuck spot NoRule)
  sought_none notes f =
      let s = spot_stays modes rules old new spot g below in (
        s.0,
        tt,
        subst (λ (q : Goal). RulesLead modes subjects rules hyps budget levels (spot_goal old spot) spot.path.items (record { goal = q; path = spot.path.items; reason = no_rule })) (sym s.1)
            (none_leads modes subjects rules hyps budget levels new (spot_goal old spot) spot.path.items 0 rules f),
      )

  -- the rule that was found
  module _ (number env : ℕ) (f : IsFirstRule modes new (spot_goal old spot) 0 rules (Some (number, env))) where
    led : RuleLeads modes subjects rules hyps budget levels new (spot_goal old spot) spot.path.items 0 rules number env
    led = rule_leads modes subjects rules hyps budget levels new (spot_goal old spot) spot.path.items 0 rules number env f

    pub sought_env : env ≤ length new.binds.cells.items
    sought_env = led.within

    pub sought_within : number < length rules
    sought_within = let e = led.number_is in let w = rule_within rules led.place led.rule led.found in omega arith

    module _ (rule : Rule) (e : slice_get rules number ≡ Some rule) where
      same_rule : led.rule ≡ rule
      same_rule =
          let n = led.number_is in
          let p : led.place ≡ number = omega arith in
          let q : Some led.rule ≡ Some rule = sym led.found ∙ ap (slice_get rules) p ∙ e in
          cc

      pub sought_quiet : (notes : List ℕ) → IsQuiet budget (rules_events modes hyps (goal_events modes rules hyps levels) 0 rules (spot_goal old spot)) → RulesFailAlong modes rules hyps levels notes (spot_goal old spot) →
          (x : Hypotheses) × AreHyps modes new facts pairs x × IsQuiet budget (premise_events modes x (goal_events modes rules x levels) rule.premises (env_at (store_envs new) env))
          × PremisesFailAlong modes rules x levels notes rule.premises (env_at (store_envs new) env)
      sought_quiet notes q f = (
        hyps,
        hyps_stay modes rules old new facts pairs hyps g are,
        subst (λ (r : Rule). IsQuiet budget (premise_events modes hyps (goal_events modes rules hyps levels) r.premises (env_at (store_envs new) env))) same_rule (led.quiet q),
        λ k ks e. subst (λ (r : Rule). PremisesFail modes rules hyps (FailsAlong modes rules hyps levels) (goal_events modes rules hyps levels) 0 k ks r.premises (env_at (store_envs new) env)) same_rule (led.fails k ks (f k ks e)),
      )

      pub sought_leads : (last : Store) (notes : List ℕ) (d : Descent) → IsDescent modes subjects rules hyps budget levels last notes (PremisesLead modes subjects rules hyps budget levels number rule (spot_goal new spot) spot.path.items 0 rule.premises (env_at (store_envs new) env)) d →
          IsDescent modes subjects rules hyps budget levels last notes (RulesLead modes subjects rules hyps budget levels (spot_goal old spot) spot.path.items) d
      sought_leads last notes d x =
          let s = spot_stays modes rules old new spot g below in
          descent_weaker modes subjects rules hyps budget levels last notes
          (PremisesLead modes subjects rules hyps budget levels number rule (spot_goal new spot) spot.path.items 0 rule.premises (env_at (store_envs new) env))
          (RulesLead modes subjects rules hyps budget levels (spot_goal old spot) spot.path.items)
          (λ blame h. led.leads blame (subst (λ (r : Rule). PremisesLead modes subjects rules hyps budget levels number r (spot_goal old spot) spot.path.items 0 r.premises (env_at (store_envs new) env) blame) (sym same_rule)
          (subst (λ (q : Goal). PremisesLead modes subjects rules hyps budget levels number rule q spot.path.items 0 rule.premises (env_at (store_envs new) env) blame) s.1 h)))
          d x
