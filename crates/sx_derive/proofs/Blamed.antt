use Rattle.std.proofs.Common.{◌≡◌, ℕ, zero, suc, ◌-◌, ◌&&◌, Bool, true, false, List, [], ◌∷◌, ◌++◌, ◌⊎◌, inl, inr, Option, Some, None, refl, sym, ap, ◌∙◌, subst}
use Rattle.std.specs.Prelude.{nat_eq}
use Rattle.std.proofs.lemmas.Bool.{eq-eqb}
use Rattle.sx_rules.specs.Instances.{instance}
use Rattle.sx_arena.specs.Matching.{same_all, Assignment, nothing_bound, match_when, match_all}
use Rattle.sx_arena.specs.Matching.{filled}
use Rattle.sx_rules.specs.Rules.{Judgement, Premise, holds, apart, Rule, Hypotheses}
use Rattle.sx_rules.specs.Rules.{judgement_instance}
use Rattle.sx_rules.specs.Modes.{Modes, inputs_of, outputs_of, Goal, goal_of, AllModed}
use Rattle.sx_rules.specs.Derivations.{Proofs}
use Rattle.sx_rules.specs.Orders.{order_of, IsBefore, IsAtMost}
use Rattle.sx_derive.specs.Walk.{Cause, Event, try, give, stop, Answer, then_each, when}
use Rattle.sx_derive.specs.Walk.{when_matched, limit_passed, unless_passed, are_apart, put_first}
use Rattle.sx_derive.specs.Walk.{after_kid, premise_events, conclude, after_match, rule_events}
use Rattle.sx_derive.specs.Walk.{rules_events, given_events, goal_events, events}
use Rattle.sx_derive.specs.Search.{DerivesGoal, EachGiven, IsReached, HasStop, IsFirst, exhausted}
use Rattle.sx_derive.specs.Search.{are_wanted, found_when, walk}
use Rattle.sx_derive.specs.Stuck.{no_rule, unequal, mismatch, Blame, path_of, PremisesStuck}
use Rattle.sx_derive.specs.Stuck.{RulesStuck, GivensStuck, IsStuck}
use Rattle.sx_derive.specs.Quiet.{first_given}
use Rattle.sx_derive.specs.Laws.{StuckGoalExists, ExhaustedHasNoStop}
use Rattle.sx_arena.proofs.Sameness.{and_left, and_right, and_both, nat_same, same_all_true, same_all_self}
use Rattle.sx_rules.proofs.Moded.{goal_same}
use Rattle.sx_arena.proofs.Filled.{apart-true, true-apart}
use Rattle.sx_derive.proofs.Walked.{at_most_self, before_at_most}
use Rattle.sx_derive.proofs.Sound.{events_sound}
use Rattle.sx_derive.proofs.Walked.{goal_reached}

-- stops
pub stop_left : {A : Type 0} (es fs : List (Event A)) → HasStop es → HasStop (es ++ fs)
stop_left [] fs h = absurd h
stop_left (try ∷ es) fs h = stop_left es fs h
stop_left (stop c ∷ es) fs h = tt
stop_left (give a ∷ es) fs h = stop_left es fs h

pub stop_right : {A : Type 0} (es fs : List (Event A)) → HasStop fs → HasStop (es ++ fs)
stop_right [] fs h = h
stop_right (try ∷ es) fs h = stop_right es fs h
stop_right (stop c ∷ es) fs h = tt
stop_right (give a ∷ es) fs h = stop_right es fs h

pub stop-then_each : {A B : Type 0} (f : A → List (Event B)) (es : List (Event A)) → HasStop es → HasStop (then_each f es)
stop-then_each f [] h = h
stop-then_each f (try ∷ es) h = stop-then_each f es h
stop-then_each f (stop c ∷ es) h = tt
stop-then_each f (give a ∷ es) h = stop_right (f a) (then_each f es) (stop-then_each f es h)

pub stop-first : {A B : Type 0} (f : A → List (Event B)) (es : List (Event A)) (a : A) → first_given es ≡ Some a → HasStop (f a) → HasStop (then_each f es)
stop-first f [] a e h = cc
stop-first f (try ∷ es) a e h = stop-first f es a e h
stop-first f (stop c ∷ es) a e h = tt
stop-first {A} f (give b ∷ es) a e h =
    let same_answer : a ≡ b = cc in stop_left (f b) (then_each f es) (subst (λ (x : A). HasStop (f x)) same_answer h)

pub none_reached : (es : List (Event Answer)) (q : Answer) → first_given es ≡ None → IsReached q es → HasStop es
none_reached [] q e h = h
none_reached (try ∷ es) q e h = none_reached es q e h
none_reached (stop c ∷ es) q e h = tt
none_reached (give a ∷ es) q e h = cc

pub first_least : (P : Answer → Type 0) (es : List (Event Answer)) (a : Answer) → first_given es ≡ Some a → EachGiven P es → P a
first_least P [] a e s = cc
first_least P (try ∷ es) a e s = first_least P es a e s
first_least P (stop c ∷ es) a e s = cc
first_least P (give b ∷ es) a e s = let same_answer : b ≡ a = cc in subst (λ (x : Answer). P x) same_answer s.0

first_at_most : (es : List (Event Answer)) (a q : Answer) → first_given es ≡ Some a → IsReached q es → IsAtMost (order_of a.0) (order_of q.0)
first_at_most [] a q e h = absurd h
first_at_most (try ∷ es) a q e h = first_at_most es a q e h
first_at_most (stop c ∷ es) a q e h = cc
first_at_most (give b ∷ es) a q e h =
    let same_answer : b ≡ a = cc in subst (λ (x : Answer). IsAtMost (order_of x.0) (order_of q.0)) same_answer (go h)
  where
    go : (b ≡ q) ⊎ IsBefore (order_of b.0) (order_of q.0) × IsReached q es → IsAtMost (order_of b.0) (order_of q.0)
    go (inl k) = subst (λ (x : Answer). IsAtMost (order_of b.0) (order_of x.0)) k (at_most_self (order_of b.0))
    go (inr k) = before_at_most (order_of b.0) (order_of q.0) k.0

module _ (modes subjects : Modes) (rules : List Rule) (hyps : Hypotheses) (moded : AllModed modes rules) where
  pub is_first : (levels : ℕ) (goal : Goal) (a : Answer) → first_given (goal_events modes rules hyps levels goal) ≡ Some a → IsFirst modes rules hyps goal None a
  is_first levels goal a e = record {
    derives = first_least (DerivesGoal modes rules hyps goal) (goal_events modes rules hyps levels goal) a e (events_sound modes rules hyps moded levels goal);
    is_wanted = tt;
    least = λ q d w. first_at_most (goal_events modes rules hyps levels goal) a q e (goal_reached modes rules hyps moded levels goal q d);
  }

  module _ (levels : ℕ) (Below : Goal → List ℕ → Blame → Type 0)
      (below_stuck : (goal : Goal) (path : List ℕ) → (HasStop (goal_events modes rules hyps levels goal) → ⊥) → (blame : Blame) × Below goal path blame) where
    premises_stuck : (r : ℕ) (rule : Rule) (goal : Goal) (path : List ℕ) (k : ℕ) (ps : List Premise) (env : Assignment) →
        (HasStop (premise_events modes hyps (goal_events modes rules hyps levels) ps env) → ⊥) →
        (blame : Blame) × PremisesStuck modes subjects rules hyps Below r rule goal path k ps env blame
    premises_stuck r rule goal path k [] env h =
        (record { goal = goal; path = path; reason = mismatch None (outputs_of modes (judgement_instance (filled env) rule.conclusion)) }, refl)
    premises_stuck r rule goal path k (apart t u ∷ ps) env h =
        go (are_apart hyps (instance (filled env) t) (instance (filled env) u)) refl h (premises_stuck r rule goal path (suc k) ps env)
      where
        es : List (Event (Assignment × Proofs))
        es = premise_events modes hyps (goal_events modes rules hyps levels) ps env

        go : (b : Bool) → are_apart hyps (instance (filled env) t) (instance (filled env) u) ≡ b →
            (HasStop (when b (premise_events modes hyps (goal_events modes rules hyps levels) ps env)) → ⊥) →
            ((HasStop (premise_events modes hyps (goal_events modes rules hyps levels) ps env) → ⊥) → (blame : Blame) × PremisesStuck modes subjects rules hyps Below r rule goal path (suc k) ps env blame) →
            (blame : Blame) × PremisesStuck modes subjects rules hyps Below r rule goal path k (apart t u ∷ ps) env blame
        go true e n rec = let x = rec n in (x.0, inl (apart-true hyps (instance (filled env) t) (instance (filled env) u) e, x.1))
        go false e n rec = (record { goal = goal; path = path; reason = unequal r k }, inr (λ a. let x = true-apart hyps (instance (filled env) t) (instance (filled env) u) a in cc, refl))
    premises_stuck r rule goal path k (holds j ∷ ps) env h =
        let made = judgement_instance (filled env) j in
        let next = premise_events modes hyps (goal_events modes rules hyps levels) ps in
        let es = goal_events modes rules hyps levels (goal_of modes made) in
        let n = no_limit (limit_passed (inputs_of modes made)) (then_each (after_kid next (outputs_of modes j) env) es) h in
        go (first_given es) refl n (λ more. premises_stuck r rule goal path (suc k) ps more)
      where
        no_limit : {A : Type 0} (c : Option Cause) (es : List (Event A)) → (HasStop (unless_passed c es) → ⊥) → HasStop es → ⊥
        no_limit None es n x = n x
        no_limit (Some c) es n x = n tt

        matched : (a : Answer) (m : Option Assignment) → match_all (outputs_of modes j) a.1 env ≡ m → IsFirst modes rules hyps (goal_of modes (judgement_instance (filled env) j)) None a →
            (HasStop (when_matched m (λ more. then_each (put_first a.0) (premise_events modes hyps (goal_events modes rules hyps levels) ps more))) → ⊥) →
            ((more : Assignment) → (HasStop (premise_events modes hyps (goal_events modes rules hyps levels) ps more) → ⊥) → (blame : Blame) × PremisesStuck modes subjects rules hyps Below r rule goal path (suc k) ps more blame) →
            (blame : Blame) × PremisesStuck modes subjects rules hyps Below r rule goal path k (holds j ∷ ps) env blame
        matched a None e f n rec =
            (record { goal = goal_of modes (judgement_instance (filled env) j); path = path_of subjects path rule j; reason = mismatch (Some (r, k)) a.1 }, inr (a, f, inl (e, refl)))
        matched a (Some more) e f n rec =
            let x = rec more (λ s. n (stop-then_each (put_first a.0) (premise_events modes hyps (goal_events modes rules hyps levels) ps more) s)) in
            (x.0, inr (a, f, inr (more, e, x.1)))

        go : (o : Option Answer) → first_given (goal_events modes rules hyps levels (goal_of modes (judgement_instance (filled env) j))) ≡ o →
            (HasStop (then_each (after_kid (premise_events modes hyps (goal_events modes rules hyps levels) ps) (outputs_of modes j) env) (goal_events modes rules hyps levels (goal_of modes (judgement_instance (filled env) j)))) → ⊥) →
            ((more : Assignment) → (HasStop (premise_events modes hyps (goal_events modes rules hyps levels) ps more) → ⊥) → (blame : Blame) × PremisesStuck modes subjects rules hyps Below r rule goal path (suc k) ps more blame) →
            (blame : Blame) × PremisesStuck modes subjects rules hyps Below r rule goal path k (holds j ∷ ps) env blame
        go None e n rec =
            let kid = goal_of modes (judgement_instance (filled env) j) in
            let es = goal_events modes rules hyps levels kid in
            let f = after_kid (premise_events modes hyps (goal_events modes rules hyps levels) ps) (outputs_of modes j) env in
            let no_stop = (λ (s : HasStop es). n (stop-then_each f es s)) in
            let x = below_stuck kid (path_of subjects path rule j) no_stop in
            (x.0, inl (λ a d. no_stop (none_reached es a e (goal_reached modes rules hyps moded levels kid a d)), x.1))
        go (Some a) e n rec =
            let kid = goal_of modes (judgement_instance (filled env) j) in
            let f = after_kid (premise_events modes hyps (goal_events modes rules hyps levels) ps) (outputs_of modes j) env in
            matched a (match_all (outputs_of modes j) a.1 env) refl (is_first levels kid a e) (λ s. n (stop-first f (goal_events modes rules hyps levels kid) a e s)) rec

    rules_stuck : (r : ℕ) (rs : List Rule) (goal : Goal) (path : List ℕ) → (HasStop (rules_events modes hyps (goal_events modes rules hyps levels) r rs goal) → ⊥) →
        (blame : Blame) × RulesStuck modes subjects rules hyps Below r rs goal path blame
    rules_stuck r [] goal path h = (record { goal = goal; path = path; reason = no_rule }, refl)
    rules_stuck r (rule ∷ rs) goal path h =
        let below = goal_events modes rules hyps levels in
        by_form (nat_eq rule.conclusion.form goal.form) (match_all (inputs_of modes rule.conclusion) goal.terms nothing_bound) refl refl
        (λ s. h (stop_left (rule_events modes hyps below r rule goal) (rules_events modes hyps below (suc r) rs goal) s))
        (rules_stuck (suc r) rs goal path (λ s. h (stop_right (rule_events modes hyps below r rule goal) (rules_events modes hyps below (suc r) rs goal) s)))
      where
        by_form : (b : Bool) (m : Option Assignment) → nat_eq rule.conclusion.form goal.form ≡ b → match_all (inputs_of modes rule.conclusion) goal.terms nothing_bound ≡ m →
            (HasStop (when b (when_matched m (after_match modes hyps (goal_events modes rules hyps levels) r rule))) → ⊥) →
            (blame : Blame) × RulesStuck modes subjects rules hyps Below (suc r) rs goal path blame →
            (blame : Blame) × RulesStuck modes subjects rules hyps Below r (rule ∷ rs) goal path blame
        by_form false m e f n x = (x.0, inr (ap (λ (b : Bool). match_when b (match_all (inputs_of modes rule.conclusion) goal.terms nothing_bound)) e, x.1))
        by_form true None e f n x = (x.0, inr (ap (λ (b : Bool). match_when b (match_all (inputs_of modes rule.conclusion) goal.terms nothing_bound)) e ∙ f, x.1))
        by_form true (Some env) e f n x =
            let y = premises_stuck r rule goal path 0 rule.premises env
            (λ s. n (stop-then_each (conclude modes r rule) (premise_events modes hyps (goal_events modes rules hyps levels) rule.premises env) s)) in
            (y.0, inl (env, ap (λ (b : Bool). match_when b (match_all (inputs_of modes rule.conclusion) goal.terms nothing_bound)) e ∙ f, y.1))

  givens_stuck : (AmongRules : Blame → Type 0) (js : List Judgement) (goal : Goal) (path : List ℕ) → (blame : Blame) × AmongRules blame →
      (blame : Blame) × GivensStuck modes subjects rules hyps (AmongRules blame) js goal path blame
  givens_stuck AmongRules [] goal path x = x
  givens_stuck AmongRules (j ∷ js) goal path x =
      go (nat_eq j.form goal.form && same_all (inputs_of modes j) goal.terms) refl (givens_stuck AmongRules js goal path x)
    where
      go : (b : Bool) → (nat_eq j.form goal.form && same_all (inputs_of modes j) goal.terms) ≡ b →
          (blame : Blame) × GivensStuck modes subjects rules hyps (AmongRules blame) js goal path blame →
          (blame : Blame) × GivensStuck modes subjects rules hyps (AmongRules blame) (j ∷ js) goal path blame
      go true e y = (
        record { goal = goal; path = path; reason = mismatch None (outputs_of modes j) },
        inl (
          goal_same (goal_of modes j) goal (nat_same j.form goal.form (and_left (nat_eq j.form goal.form) (same_all (inputs_of modes j) goal.terms) e))
              (same_all_true (inputs_of modes j) goal.terms (and_right (nat_eq j.form goal.form) (same_all (inputs_of modes j) goal.terms) e)),
          refl,
        ),
      )
      go false e y = (y.0, inr (λ k. differs k, y.1))
        where
          differs : goal_of modes j ≡ goal → ⊥
          differs k =
              let a : nat_eq j.form goal.form ≡ true = eq-eqb j.form goal.form (ap (λ (g : Goal). g.form) k) in
              let b : same_all (inputs_of modes j) goal.terms ≡ true = ap (λ (g : Goal). same_all (inputs_of modes j) g.terms) (sym k) ∙ same_all_self (inputs_of modes j) in
              let c = and_both (nat_eq j.form goal.form) (same_all (inputs_of modes j) goal.terms) a b in cc

  stuck : (levels : ℕ) (goal : Goal) (path : List ℕ) → (HasStop (goal_events modes rules hyps levels goal) → ⊥) → (blame : Blame) × IsStuck modes subjects rules hyps levels goal path blame
  unfolding goal_events IsStuck
  stuck zero goal path h = absurd (h tt)
  stuck (suc levels) goal path h =
      givens_stuck (λ blame. RulesStuck modes subjects rules hyps (IsStuck modes subjects rules hyps levels) 0 rules goal path blame) hyps.judgements goal path
      (rules_stuck levels (IsStuck modes subjects rules hyps levels) (stuck levels) 0 rules goal path
      (λ s. h (stop_right (given_events modes 0 hyps.judgements goal) (rules_events modes hyps (goal_events modes rules hyps levels) 0 rules goal) s)))

pub stuck_goal_exists : StuckGoalExists
unfolding events
stuck_goal_exists modes subjects rules hyps moded goal depth path h =
    let x = stuck modes subjects rules hyps moded (3001 - depth) goal path h in (3001 - depth, x.0, x.1)

pub exhausted_has_no_stop : ExhaustedHasNoStop
exhausted_has_no_stop wanted budget [] e h = h
exhausted_has_no_stop wanted zero (try ∷ es) e h = cc
exhausted_has_no_stop wanted (suc budget) (try ∷ es) e h = exhausted_has_no_stop wanted budget es e h
exhausted_has_no_stop wanted budget (stop c ∷ es) e h = cc
exhausted_has_no_stop wanted budget (give a ∷ es) e h = go (are_wanted wanted a.1) e (λ f. exhausted_has_no_stop wanted budget es f h)
  where
    go : (b : Bool) → found_when b a (walk wanted budget es) ≡ exhausted → (walk wanted budget es ≡ exhausted → ⊥) → ⊥
    go true f rec = cc
    go false f rec = rec f
