-- What a walk finds is replayed within the limits: the walk measured each term that its derivation makes.
use Rattle.std.proofs.Common.{◌≡◌, ℕ, zero, suc, ◌+◌, ◌-◌, ◌<◌, ◌&&◌, Bool, true, false, List, [], ◌∷◌, ◌++◌, ◌⊎◌, inl, inr, length, Option, Some, None, refl, sym, ap, ◌∙◌, arith}
use Rattle.std.specs.Prelude.{slice_get, nat_eq, nat_lt}
use Rattle.sx_term.specs.Tree.{Tree, depth_of, size_of}
use Rattle.sx_rules.specs.Instances.{instance, StandsAmong, bound_by}
use Rattle.sx_rules.specs.Rules.{Judgement, Premise, holds, apart, Rule, Hypotheses}
use Rattle.sx_rules.specs.Rules.{judgement_instance, judgements_of}
use Rattle.sx_rules.specs.Modes.{Modes, inputs_of, outputs_of, Goal, goal_of, AreModed, IsModed}
use Rattle.sx_rules.specs.Modes.{AllModed}
use Rattle.sx_rules.specs.Derivations.{Proofs, by, given, height_of}
use Rattle.sx_arena.specs.Matching.{same_all, Assignment, nothing_bound, match_all, filled, IsBound}
use Rattle.sx_arena.specs.Matching.{ExtendsAssignment, Agrees}
use Rattle.sx_derive.specs.Walk.{Cause, Event, try, give, stop, Answer, then_each, when_matched}
use Rattle.sx_derive.specs.Walk.{term_limit, first_cause, limit_passed, unless_passed, are_apart}
use Rattle.sx_derive.specs.Walk.{put_first, after_kid, premise_events, first_values, conclude}
use Rattle.sx_derive.specs.Walk.{after_match, rule_events, rules_events, given_event, given_events}
use Rattle.sx_derive.specs.Walk.{goal_events, events}
use Rattle.sx_derive.specs.Search.{DerivesGoal, EachGiven}
use Rattle.sx_replay.specs.Limits.{first_of, first_deep, first_big}
use Rattle.sx_replay.specs.Fronts.{asked_of, concluded_of, made_in, made_below}
use Rattle.sx_arena.proofs.Matchings.{match_all-matches, stays-bound, stays-agreed}
use Rattle.sx_arena.proofs.Filled.{filled-inputs, filled-outputs, first_values-at}
use Rattle.sx_arena.specs.Matching.{value_or}
use Rattle.sx_rules.proofs.Moded.{moded-at}
use Rattle.sx_derive.proofs.Sound.{given-append, given-when, given-when_matched, given-then_each, events_sound}
use Rattle.sx_derive.proofs.Bounded.{IsBoundedAnswer, events_bounded}
use Rattle.sx_derive.proofs.FoundEach.{found_each}
use Rattle.sx_top.specs.VerifyLaws.{FoundIsWithin}

-- ---- limits

nothing_passes : limit_passed [] ≡ None
unfolding limit_passed
nothing_passes = refl

both_pass : (c d : Option Cause) → first_cause c d ≡ None → (c ≡ None) × (d ≡ None)
both_pass None d e = (refl, e)
both_pass (Some c) d e = cc

none_passes : (ts us : List Tree) → limit_passed ts ≡ None → limit_passed us ≡ None → limit_passed (ts ++ us) ≡ None
unfolding limit_passed
none_passes [] us e f = f
none_passes (t ∷ ts) us e f =
    let b = both_pass (term_limit (nat_lt 1000 (depth_of t)) (nat_lt 1000000 (size_of t)) t) (limit_passed ts) e in
    ap (λ c. first_cause c (limit_passed (ts ++ us))) b.0 ∙ none_passes ts us b.1 f

no_limit : (b c : Bool) (t : Tree) → term_limit b c t ≡ None → (b ≡ false) × (c ≡ false)
no_limit true c t e = cc
no_limit false true t e = cc
no_limit false false t e = (refl, refl)

none_first : (ts : List Tree) → limit_passed ts ≡ None → (first_deep ts ≡ None) × (first_big ts ≡ None)
unfolding limit_passed
none_first [] e = (refl, refl)
none_first (t ∷ ts) e =
    let b = both_pass (term_limit (nat_lt 1000 (depth_of t)) (nat_lt 1000000 (size_of t)) t) (limit_passed ts) e in
    let c = no_limit (nat_lt 1000 (depth_of t)) (nat_lt 1000000 (size_of t)) t b.0 in
    let r = none_first ts b.1 in
    (ap (λ x. first_of x (depth_of t) (first_deep ts)) c.0 ∙ r.0, ap (λ x. first_of x (size_of t) (first_big ts)) c.1 ∙ r.1)

given_unless : {A : Type 0} (P : A → Type 0) (c : Option Cause) (es : List (Event A)) → (c ≡ None → EachGiven P es) → EachGiven P (unless_passed c es)
given_unless P None es h = h refl
given_unless P (Some c) es h = tt

given_weaker : {A : Type 0} (P Q : A → Type 0) → ((a : A) → P a → Q a) → (es : List (Event A)) → EachGiven P es → EachGiven Q es
given_weaker P Q k [] h = tt
given_weaker P Q k (try ∷ es) h = given_weaker P Q k es h
given_weaker P Q k (stop x ∷ es) h = given_weaker P Q k es h
given_weaker P Q k (give a ∷ es) h = (k a h.0, given_weaker P Q k es h.1)

bound_later : {X Y Z : Type 0} → (X → Y) → X ⊎ Z → Y ⊎ Z
bound_later f (inl x) = inl (f x)
bound_later f (inr z) = inr z

not_before : {Z : Type 0} (v : ℕ) → IsBound nothing_bound v ⊎ Z → Z
not_before v (inl x) = let e : None ≡ Some x.0 = x.1 in cc
not_before v (inr z) = z

-- ---- what a derivation makes

module _ (modes : Modes) (rules : List Rule) (hyps : Hypotheses) where
  -- no term that the derivation makes passes a limit
  abbrev IsQuietAnswer : Answer → Type 0
  IsQuietAnswer a = limit_passed (made_in modes rules a.0) ≡ None

  -- nor those from here on
  record IsQuietEnd (rule : Rule) (ps : List Premise) (env : Assignment) (end : Assignment × Proofs) : Type 0 where
    pub extends : ExtendsAssignment env end.0
    pub scoped : (v : ℕ) → IsBound end.0 v → v < length rule.sorts
    pub outputs_bound : (v : ℕ) → StandsAmong v (outputs_of modes rule.conclusion) → IsBound end.0 v
    pub quiet : (s : ℕ → Tree) → Agrees end.0 s → limit_passed (made_below modes rules (judgements_of ps) s end.1) ≡ None

  made_by_rule : (r : ℕ) (rule : Rule) (binds : List Tree) (kids : Proofs) → slice_get rules r ≡ Some rule →
      limit_passed (made_below modes rules (judgements_of rule.premises) (bound_by binds) kids) ≡ None →
      limit_passed (outputs_of modes (judgement_instance (bound_by binds) rule.conclusion)) ≡ None → limit_passed (made_in modes rules (by r binds kids)) ≡ None
  made_by_rule r rule binds kids at_r e f =
      ap (λ o. limit_passed (made_below modes rules (asked_of o) (bound_by binds) kids ++ concluded_of modes o (bound_by binds))) at_r
      ∙ none_passes (made_below modes rules (judgements_of rule.premises) (bound_by binds) kids) (outputs_of modes (judgement_instance (bound_by binds) rule.conclusion)) e f

  module _ (below : Goal → List (Event Answer)) (quiet : (g : Goal) → EachGiven IsQuietAnswer (below g)) where
    premises_quiet : (rule : Rule) (ps : List Premise) (env : Assignment) (Bound : ℕ → Type 0) →
        ((v : ℕ) → Bound v → IsBound env v) → ((v : ℕ) → IsBound env v → Bound v) → AreModed modes Bound ps rule →
        EachGiven (IsQuietEnd rule ps env) (premise_events modes hyps below ps env)
    premises_quiet rule [] env Bound b c m = (
      record { extends = λ v u e. e; scoped = λ v h. (m.1 v).0 (c v h); outputs_bound = λ v h. b v (m.0 v h); quiet = λ s a. nothing_passes },
      tt,
    )
    premises_quiet rule (apart t u ∷ ps) env Bound b c m =
        given-when (IsQuietEnd rule (apart t u ∷ ps) env) (are_apart hyps (instance (filled env) t) (instance (filled env) u)) (premise_events modes hyps below ps env)
        (λ yes. given_weaker (λ (end : Assignment × Proofs). IsQuietEnd rule ps env end) (IsQuietEnd rule (apart t u ∷ ps) env)
        (λ end h. record { extends = h.extends; scoped = h.scoped; outputs_bound = h.outputs_bound; quiet = h.quiet })
        (premise_events modes hyps below ps env) (premises_quiet rule ps env Bound b c m.1))
    premises_quiet rule (holds j ∷ ps) env Bound b c m =
        let next = premise_events modes hyps below ps in
        let patterns = outputs_of modes j in
        let goal = goal_of modes (judgement_instance (filled env) j) in
        let asked = inputs_of modes (judgement_instance (filled env) j) in
        let Q = IsQuietEnd rule (holds j ∷ ps) env in
        given_unless Q (limit_passed asked) (then_each (after_kid next patterns env) (below goal))
        (λ none. given-then_each IsQuietAnswer Q (after_kid next patterns env) (below goal) (quiet goal)
        (λ kid d. given-when_matched Q (match_all patterns kid.1 env) (λ more. then_each (put_first kid.0) (next more))
        (λ more e.
        let k = match_all-matches patterns kid.1 env more e in
        given-then_each (IsQuietEnd rule ps more) Q (put_first kid.0) (next more)
        (premises_quiet rule ps more (λ v. Bound v ⊎ StandsAmong v patterns)
        (λ v. elim [ inl x ↦ stays-bound env more k.extends v (b v x) | inr x ↦ k.every v x ])
        (λ v h. bound_later (c v) (k.only v h)) m.1)
        (λ last h. (
          record {
            extends = λ v u q. h.extends v u (k.extends v u q);
            scoped = h.scoped;
            outputs_bound = h.outputs_bound;
            quiet = λ s a.
                let a0 = stays-agreed env more s k.extends (stays-agreed more last.0 s h.extends a) in
                let ins = ap limit_passed (sym (filled-inputs modes env s a0 j (λ v x. b v (m.0 v x)))) ∙ none in
                none_passes (inputs_of modes (judgement_instance s j)) (made_in modes rules kid.0 ++ made_below modes rules (judgements_of ps) s last.1) ins
                (none_passes (made_in modes rules kid.0) (made_below modes rules (judgements_of ps) s last.1) d (h.quiet s a));
          },
          tt,
        )))))

    rule_quiet : (r : ℕ) (rule : Rule) (goal : Goal) → slice_get rules r ≡ Some rule → IsModed modes rule → EachGiven IsQuietAnswer (rule_events modes hyps below r rule goal)
    rule_quiet r rule goal at_r m =
        let patterns = inputs_of modes rule.conclusion in
        let n = length rule.sorts in
        given-when IsQuietAnswer (nat_eq rule.conclusion.form goal.form) (when_matched (match_all patterns goal.terms nothing_bound) (after_match modes hyps below r rule))
        (λ same_form. given-when_matched IsQuietAnswer (match_all patterns goal.terms nothing_bound) (after_match modes hyps below r rule)
        (λ env e.
        let k = match_all-matches patterns goal.terms nothing_bound env e in
        given-then_each (IsQuietEnd rule rule.premises env) IsQuietAnswer (conclude modes r rule) (premise_events modes hyps below rule.premises env)
        (premises_quiet rule rule.premises env (λ v. StandsAmong v patterns) k.every (λ v h. not_before v (k.only v h)) m)
        (λ end h.
        let binds = first_values n (filled end.0) in
        let s = bound_by binds in
        let a : Agrees end.0 s = (λ v u q. first_values-at n (filled end.0) v (h.scoped v (u, q)) ∙ ap value_or q) in
        let made = outputs_of modes (judgement_instance (filled end.0) rule.conclusion) in
        given_unless IsQuietAnswer (limit_passed made) (give (by r binds end.1, made) ∷ [])
        (λ none. (made_by_rule r rule binds end.1 at_r (h.quiet s a) (ap limit_passed (sym (filled-outputs modes end.0 s a rule.conclusion h.outputs_bound)) ∙ none), tt)))))

    rules_quiet : AllModed modes rules → (n : ℕ) (some_rules : List Rule) (goal : Goal) →
        ((k m : ℕ) (x : Rule) → slice_get some_rules k ≡ Some x → m ≡ n + k → slice_get rules m ≡ Some x) →
        EachGiven IsQuietAnswer (rules_events modes hyps below n some_rules goal)
    rules_quiet moded n [] goal h = tt
    rules_quiet moded n (x ∷ more) goal h =
        let at_n : slice_get rules n ≡ Some x = h zero n x refl (omega arith) in
        given-append IsQuietAnswer (rule_events modes hyps below n x goal) (rules_events modes hyps below (suc n) more goal)
        (rule_quiet n x goal at_n (moded-at modes rules n x moded at_n))
        (rules_quiet moded (suc n) more goal (λ k m y e is. h (suc k) m y e (omega arith)))

  givens_quiet : (n : ℕ) (js : List Judgement) (goal : Goal) → EachGiven IsQuietAnswer (given_events modes n js goal)
  givens_quiet n [] goal = tt
  givens_quiet n (j ∷ js) goal =
      given-append IsQuietAnswer (given_event modes n j goal) (given_events modes (suc n) js goal)
      (given-when IsQuietAnswer (nat_eq j.form goal.form && same_all (inputs_of modes j) goal.terms) (give (given n, outputs_of modes j) ∷ []) (λ e. (nothing_passes, tt)))
      (givens_quiet (suc n) js goal)

  same_place : {X : Type 0} (xs : List X) (k m : ℕ) (x : X) → slice_get xs k ≡ Some x → m ≡ k → slice_get xs m ≡ Some x
  same_place xs k m x e is = ap (slice_get xs) is ∙ e

  events_quiet : AllModed modes rules → (levels : ℕ) (goal : Goal) → EachGiven IsQuietAnswer (goal_events modes rules hyps levels goal)
  unfolding goal_events
  events_quiet moded zero goal = tt
  events_quiet moded (suc levels) goal =
      given-append IsQuietAnswer (given_events modes zero hyps.judgements goal) (rules_events modes hyps (goal_events modes rules hyps levels) zero rules goal)
      (givens_quiet zero hyps.judgements goal)
      (rules_quiet (goal_events modes rules hyps levels) (events_quiet moded levels) moded zero rules goal (λ k m x e is. same_place rules k m x e (omega arith)))

pub found_within : FoundIsWithin
unfolding events
found_within modes rules hyps moded hyps_shallow goal goal_shallow wanted budget a e =
    let es = goal_events modes rules hyps (3001 - 1) goal in
    let d = found_each (DerivesGoal modes rules hyps goal) wanted budget es a (events_sound modes rules hyps moded (3001 - 1) goal) e in
    let q = found_each (IsQuietAnswer modes rules hyps) wanted budget es a (events_quiet modes rules hyps moded (3001 - 1) goal) e in
    let b = found_each (IsBoundedAnswer (3001 - 1)) wanted budget es a (events_bounded modes rules hyps hyps_shallow (3001 - 1) goal goal_shallow) e in
    let n = none_first (made_in modes rules a.0) q in
    record { terms = made_in modes rules a.0; depth = height_of a.0; front = (a.0, d, refl, refl, refl); shallow = n.0; small = n.1; level = b.0 }
