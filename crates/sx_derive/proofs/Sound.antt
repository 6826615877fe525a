use Rattle.std.proofs.Common.{◌≡◌, ℕ, zero, suc, ◌+◌, ◌<◌, Bool, true, false, List, [], ◌∷◌, ◌++◌, ◌⊎◌, inl, inr, map, length, Option, Some, None, refl, sym, ap, ◌∙◌, subst, arith}
use Rattle.std.specs.Prelude.{slice_get, nat_eq, ◌&&◌}
use Rattle.sx_term.specs.Tree.{Tree}
use Rattle.sx_rules.specs.Instances.{instance, StandsAmong, bound_by}
use Rattle.sx_arena.specs.Matching.{same_all, Assignment, nothing_bound, match_all, value_or}
use Rattle.sx_arena.specs.Matching.{filled, IsBound, ExtendsAssignment, Agrees}
use Rattle.sx_rules.specs.Rules.{Judgement, Premise, holds, apart, Rule, Hypotheses}
use Rattle.sx_rules.specs.Rules.{judgement_instance, judgements_of, AreApart, AllApart}
use Rattle.sx_rules.specs.Modes.{Modes, inputs_of, outputs_of, Goal, goal_of, AreModed, IsModed}
use Rattle.sx_rules.specs.Modes.{AllModed}
use Rattle.sx_rules.specs.Derivations.{Proofs, by, given, Derives, DeriveEach}
use Rattle.sx_derive.specs.Walk.{Cause, Event, try, give, stop, Answer, then_each, when}
use Rattle.sx_derive.specs.Walk.{when_matched, limit_passed, unless_passed, are_apart, put_first}
use Rattle.sx_derive.specs.Walk.{after_kid, premise_events, first_values, conclude, after_match}
use Rattle.sx_derive.specs.Walk.{rule_events, rules_events, given_event, given_events, goal_events}
use Rattle.sx_derive.specs.Search.{DerivesGoal, EachGiven}
use Rattle.sx_arena.proofs.Sameness.{and_left, and_right, nat_same, same_all_true}
use Rattle.sx_arena.proofs.Matchings.{match_all-matches, stays-bound, stays-agreed}
use Rattle.sx_rules.proofs.Moded.{inputs-map, outputs-map, goal_same, judgement_known, moded-at}
use Rattle.sx_arena.proofs.Filled.{filled-instance, filled-goal, filled-outputs, first_values-at, length-first_values, apart-true}

module _ {A : Type 0} (P : A → Type 0) where
  pub given-append : (es fs : List (Event A)) → EachGiven P es → EachGiven P fs → EachGiven P (es ++ fs)
  given-append [] fs p q = q
  given-append (try ∷ es) fs p q = given-append es fs p q
  given-append (stop c ∷ es) fs p q = given-append es fs p q
  given-append (give a ∷ es) fs p q = (p.0, given-append es fs p.1 q)

  pub given-when : (b : Bool) (es : List (Event A)) → (b ≡ true → EachGiven P es) → EachGiven P (when b es)
  given-when true es h = h refl
  given-when false es h = tt

  pub given-when_matched : (r : Option Assignment) (f : Assignment → List (Event A)) → ((env : Assignment) → r ≡ Some env → EachGiven P (f env)) → EachGiven P (when_matched r f)
  given-when_matched None f h = tt
  given-when_matched (Some env) f h = h env refl

  pub given-unless_passed : (c : Option Cause) (es : List (Event A)) → EachGiven P es → EachGiven P (unless_passed c es)
  given-unless_passed None es h = h
  given-unless_passed (Some c) es h = tt

pub given-then_each : {A C : Type 0} (P : A → Type 0) (Q : C → Type 0) (f : A → List (Event C)) (es : List (Event A)) → EachGiven P es → ((a : A) → P a → EachGiven Q (f a)) → EachGiven Q (then_each f es)
given-then_each P Q f [] h k = tt
given-then_each P Q f (try ∷ es) h k = given-then_each P Q f es h k
given-then_each P Q f (stop c ∷ es) h k = given-then_each P Q f es h k
given-then_each P Q f (give a ∷ es) h k = given-append Q (f a) (then_each f es) (k a h.0) (given-then_each P Q f es h.1 k)

nothing_bound-only : {Z : Type 0} (v : ℕ) → IsBound nothing_bound v ⊎ Z → Z
nothing_bound-only v (inl x) = let e : None ≡ Some x.0 = x.1 in cc
nothing_bound-only v (inr z) = z

module _ (modes : Modes) (rules : List Rule) (hyps : Hypotheses) where
  -- what is told of the end of the premises from here on
  pub record IsSoundEnd (rule : Rule) (ps : List Premise) (env : Assignment) (found : Assignment × Proofs) : Type 0 where
    pub extends : ExtendsAssignment env found.0
    pub scoped : (v : ℕ) → IsBound found.0 v → v < length rule.sorts
    pub outputs_bound : (v : ℕ) → StandsAmong v (outputs_of modes rule.conclusion) → IsBound found.0 v
    pub all_apart : (s : ℕ → Tree) → Agrees found.0 s → AllApart hyps s ps
    pub each : (s : ℕ → Tree) → Agrees found.0 s → DeriveEach rules hyps (map (judgement_instance s) (judgements_of ps)) found.1

  module _ (below : Goal → List (Event Answer)) (sound : (g : Goal) → EachGiven (DerivesGoal modes rules hyps g) (below g)) where
    premises_sound : (rule : Rule) (ps : List Premise) (env : Assignment) (Bound : ℕ → Type 0) →
        ((v : ℕ) → Bound v → IsBound env v) → ((v : ℕ) → IsBound env v → Bound v) → AreModed modes Bound ps rule →
        EachGiven (IsSoundEnd rule ps env) (premise_events modes hyps below ps env)
    premises_sound rule [] env Bound b c m = (
      record {
        extends = λ v u e. e;
        scoped = λ v h. (m.1 v).0 (c v h);
        outputs_bound = λ v h. b v (m.0 v h);
        all_apart = λ s a. tt;
        each = λ s a. tt;
      },
      tt,
    )
    premises_sound rule (apart t u ∷ ps) env Bound b c m =
        given-when (IsSoundEnd rule (apart t u ∷ ps) env) (are_apart hyps (instance (filled env) t) (instance (filled env) u)) (premise_events modes hyps below ps env)
        (λ yes. weaken (λ (found : Assignment × Proofs). IsSoundEnd rule ps env found) (IsSoundEnd rule (apart t u ∷ ps) env)
        (λ found h. record {
          extends = h.extends;
          scoped = h.scoped;
          outputs_bound = h.outputs_bound;
          all_apart = λ s a.
              let a' = stays-agreed env found.0 s h.extends a in
              let et = filled-instance env s a' t (λ v k. b v (m.0 v (inl k))) in
              let eu = filled-instance env s a' u (λ v k. b v (m.0 v (inr k))) in
              let x = apart-true hyps (instance (filled env) t) (instance (filled env) u) yes in
              (subst (λ (y : Tree). AreApart hyps y (instance s u)) et (subst (λ (y : Tree). AreApart hyps (instance (filled env) t) y) eu x), h.all_apart s a);
          each = h.each;
        })
        (premise_events modes hyps below ps env) (premises_sound rule ps env Bound b c m.1))
      where
        weaken : {A : Type 0} (P Q : A → Type 0) → ((a : A) → P a → Q a) → (es : List (Event A)) → EachGiven P es → EachGiven Q es
        weaken P Q k [] h = tt
        weaken P Q k (try ∷ es) h = weaken P Q k es h
        weaken P Q k (stop x ∷ es) h = weaken P Q k es h
        weaken P Q k (give a ∷ es) h = (k a h.0, weaken P Q k es h.1)
    premises_sound rule (holds j ∷ ps) env Bound b c m =
        let next = premise_events modes hyps below ps in
        let patterns = outputs_of modes j in
        let goal = goal_of modes (judgement_instance (filled env) j) in
        let Q = IsSoundEnd rule (holds j ∷ ps) env in
        given-unless_passed Q (limit_passed (inputs_of modes (judgement_instance (filled env) j))) (then_each (after_kid next patterns env) (below goal))
        (given-then_each (DerivesGoal modes rules hyps goal) Q (after_kid next patterns env) (below goal) (sound goal)
        (λ found d. given-when_matched Q (match_all patterns found.1 env) (λ more. then_each (put_first found.0) (next more))
        (λ more e.
        let k = match_all-matches patterns found.1 env more e in
        given-then_each (IsSoundEnd rule ps more) Q (put_first found.0) (next more)
        (premises_sound rule ps more (λ v. Bound v ⊎ StandsAmong v patterns)
        (λ v. elim [ inl x ↦ stays-bound env more k.extends v (b v x) | inr x ↦ k.every v x ])
        (λ v h. both (c v) (k.only v h)) m.1)
        (λ last h. (
          record {
            extends = λ v u q. h.extends v u (k.extends v u q);
            scoped = h.scoped;
            outputs_bound = h.outputs_bound;
            all_apart = h.all_apart;
            each = λ s a.
                let a1 = stays-agreed more last.0 s h.extends a in
                let a0 = stays-agreed env more s k.extends a1 in
                let same_goal = d.1 ∙ filled-goal modes env s a0 j (λ v x. b v (m.0 v x)) in
                let same_outputs = d.2 ∙ sym (k.instance_is s a1) ∙ sym (outputs-map s (modes j.form) j.places) in
                (subst (λ (x : Judgement). Derives rules hyps x found.0) (judgement_known modes d.0 (judgement_instance s j) same_goal same_outputs) d.3, h.each s a);
          },
          tt,
        )))))
      where
        both : {X Y Z : Type 0} → (X → Y) → X ⊎ Z → Y ⊎ Z
        both f (inl x) = inl (f x)
        both f (inr z) = inr z

    rule_sound : (r : ℕ) (rule : Rule) (goal : Goal) → slice_get rules r ≡ Some rule → IsModed modes rule →
        EachGiven (DerivesGoal modes rules hyps goal) (rule_events modes hyps below r rule goal)
    rule_sound r rule goal at_r m =
        let P = DerivesGoal modes rules hyps goal in
        let patterns = inputs_of modes rule.conclusion in
        let n = length rule.sorts in
        given-when P (nat_eq rule.conclusion.form goal.form) (when_matched (match_all patterns goal.terms nothing_bound) (after_match modes hyps below r rule))
        (λ same_form. given-when_matched P (match_all patterns goal.terms nothing_bound) (after_match modes hyps below r rule)
        (λ env e.
        let k = match_all-matches patterns goal.terms nothing_bound env e in
        given-then_each (IsSoundEnd rule rule.premises env) P (conclude modes r rule) (premise_events modes hyps below rule.premises env)
        (premises_sound rule rule.premises env (λ v. StandsAmong v patterns) k.every (λ v h. nothing_bound-only v (k.only v h)) m)
        (λ found h.
        let binds = first_values n (filled found.0) in
        let s = bound_by binds in
        let a : Agrees found.0 s = (λ v u q. first_values-at n (filled found.0) v (h.scoped v (u, q)) ∙ ap value_or q) in
        let j = judgement_instance s rule.conclusion in
        let made = outputs_of modes (judgement_instance (filled found.0) rule.conclusion) in
        let ins = inputs-map s (modes rule.conclusion.form) rule.conclusion.places ∙ k.instance_is s (stays-agreed env found.0 s h.extends a) in
        given-unless_passed P (limit_passed made) (give (by r binds found.1, made) ∷ []) (
          (
            j,
            goal_same (goal_of modes j) goal (nat_same rule.conclusion.form goal.form same_form) ins,
            sym (filled-outputs modes found.0 s a rule.conclusion h.outputs_bound),
            (rule, at_r, length-first_values n (filled found.0), refl, h.all_apart s a, h.each s a),
          ),
          tt,
        ))))

    rules_sound : AllModed modes rules → (n : ℕ) (some_rules : List Rule) (goal : Goal) →
        ((k m : ℕ) (x : Rule) → slice_get some_rules k ≡ Some x → m ≡ n + k → slice_get rules m ≡ Some x) →
        EachGiven (DerivesGoal modes rules hyps goal) (rules_events modes hyps below n some_rules goal)
    rules_sound moded n [] goal h = tt
    rules_sound moded n (x ∷ more) goal h =
        let at_n : slice_get rules n ≡ Some x = h zero n x refl (omega arith) in
        given-append (DerivesGoal modes rules hyps goal) (rule_events modes hyps below n x goal) (rules_events modes hyps below (suc n) more goal)
        (rule_sound n x goal at_n (moded-at modes rules n x moded at_n))
        (rules_sound moded (suc n) more goal (λ k m y e is. h (suc k) m y e (omega arith)))

  givens_sound : (n : ℕ) (js : List Judgement) (goal : Goal) →
      ((k m : ℕ) (x : Judgement) → slice_get js k ≡ Some x → m ≡ n + k → slice_get hyps.judgements m ≡ Some x) →
      EachGiven (DerivesGoal modes rules hyps goal) (given_events modes n js goal)
  givens_sound n [] goal h = tt
  givens_sound n (j ∷ js) goal h =
      given-append (DerivesGoal modes rules hyps goal) (given_event modes n j goal) (given_events modes (suc n) js goal)
      (given-when (DerivesGoal modes rules hyps goal) (nat_eq j.form goal.form && same_all (inputs_of modes j) goal.terms) (give (given n, outputs_of modes j) ∷ [])
      (λ yes. (
        (
          j,
          goal_same (goal_of modes j) goal (nat_same j.form goal.form (and_left (nat_eq j.form goal.form) (same_all (inputs_of modes j) goal.terms) yes))
              (same_all_true (inputs_of modes j) goal.terms (and_right (nat_eq j.form goal.form) (same_all (inputs_of modes j) goal.terms) yes)),
          refl,
          h zero n j refl (omega arith),
        ),
        tt,
      )))
      (givens_sound (suc n) js goal (λ k m y e is. h (suc k) m y e (omega arith)))

  pub events_sound : AllModed modes rules → (levels : ℕ) (goal : Goal) → EachGiven (DerivesGoal modes rules hyps goal) (goal_events modes rules hyps levels goal)
  unfolding goal_events
  events_sound moded zero goal = tt
  events_sound moded (suc levels) goal =
      given-append (DerivesGoal modes rules hyps goal) (given_events modes zero hyps.judgements goal) (rules_events modes hyps (goal_events modes rules hyps levels) zero rules goal)
      (givens_sound zero hyps.judgements goal (λ k m x e is. same_place hyps.judgements k m x e (omega arith)))
      (rules_sound (goal_events modes rules hyps levels) (events_sound moded levels) moded zero rules goal (λ k m x e is. same_place rules k m x e (omega arith)))
    where
      same_place : {X : Type 0} (xs : List X) (k m : ℕ) (x : X) → slice_get xs k ≡ Some x → m ≡ k → slice_get xs m ≡ Some x
      same_place xs k m x e is = ap (slice_get xs) is ∙ e
