use Rattle.std.proofs.Common.{◌≡◌, ℕ, zero, suc, ◌+◌, ◌<◌, true, List, [], ◌∷◌, ◌++◌, ◌⊎◌, inl, inr, map, length, Some, refl, sym, ap, ◌∙◌, subst, arith}
use Rattle.std.specs.Prelude.{slice_get, nat_eq, ◌&&◌}
use Rattle.std.proofs.lemmas.Bool.{eq-eqb}
use Rattle.sx_term.specs.Tree.{Tree}
use Rattle.sx_rules.specs.Instances.{instance, StandsAmong, bound_by}
use Rattle.sx_arena.specs.Matching.{same_all, Assignment, nothing_bound, match_all, filled, IsBound}
use Rattle.sx_arena.specs.Matching.{Agrees}
use Rattle.sx_rules.specs.Rules.{Judgement, Premise, holds, apart, Rule, Hypotheses}
use Rattle.sx_rules.specs.Rules.{judgement_instance, judgements_of, AllApart}
use Rattle.sx_rules.specs.Modes.{Modes, inputs_of, outputs_of, Goal, goal_of, AreModed, IsModed}
use Rattle.sx_rules.specs.Modes.{AllModed}
use Rattle.sx_rules.specs.Derivations.{Proof, Proofs, by, given, no_more, ◌⊳◌, Derives, DeriveEach}
use Rattle.sx_rules.specs.Orders.{of_given, order_of, order_of_all}
use Rattle.sx_derive.specs.Walk.{Event, give, Answer, then_each, when_matched, limit_passed}
use Rattle.sx_derive.specs.Walk.{are_apart, put_first, after_kid, premise_events, first_values}
use Rattle.sx_derive.specs.Walk.{conclude, after_match, rule_events, rules_events, given_event}
use Rattle.sx_derive.specs.Walk.{given_events, goal_events}
use Rattle.sx_arena.proofs.Sameness.{and_both, same_all_self}
use Rattle.sx_arena.proofs.Matchings.{match_all-matches, match_all_found, stays-bound}
use Rattle.sx_rules.proofs.Moded.{inputs-map, outputs-map, moded-at}
use Rattle.sx_arena.proofs.Filled.{filled-agrees, filled-instance, filled-goal, filled-outputs, first_values-bound, true-apart}
use Rattle.sx_derive.proofs.Settled.{Precedes, precedes-append, precedes_after, Passes, Settle, passes-append, passes-when, passes-when_matched, passes-unless_passed, passes-then_each, settle_left, settle_right, settle-when, settle-when_matched, settle-unless_passed, settle-then_each}

-- what is given before q, and what is q
abbrev pub AnswerBefore : Proof → Answer → Type 0
AnswerBefore q a = Precedes (order_of a.0) (order_of q)

abbrev pub IsAnswer : Proof → List Tree → Answer → Type 0
IsAnswer q outs a = a ≡ (q, outs)

nothing_bound-agrees : (s : ℕ → Tree) → Agrees nothing_bound s
nothing_bound-agrees s v u e = cc

-- the end of the premises under a substitution
pub record IsEnd (modes : Modes) (rule : Rule) (s : ℕ → Tree) (kids : Proofs) (found : Assignment × Proofs) : Type 0 where
  pub same_kids : found.1 ≡ kids
  pub agrees : Agrees found.0 s
  pub all_bound : (v : ℕ) → v < length rule.sorts → IsBound found.0 v
  pub outputs_bound : (v : ℕ) → StandsAmong v (outputs_of modes rule.conclusion) → IsBound found.0 v

abbrev EndBefore : Proofs → Assignment × Proofs → Type 0
EndBefore kids found = Precedes (order_of_all found.1) (order_of_all kids)

module _ (modes : Modes) (rules : List Rule) (hyps : Hypotheses) where
  -- at every depth a stop or q is met among the events of the goal, and what is given before that is before q
  abbrev pub Reached : Judgement → Proof → Type 0
  Reached j q = (levels : ℕ) → Settle (AnswerBefore q) (IsAnswer q (outputs_of modes j)) (goal_events modes rules hyps levels (goal_of modes j))

  abbrev pub EachReached : List Judgement → Proofs → Type 0
  EachReached [] no_more = Unit {0}
  EachReached (j ∷ js) (q ⊳ qs) = Reached j q × EachReached js qs
  EachReached _ _ = ⊥

  module _ (levels : ℕ) (rule : Rule) (s : ℕ → Tree) where
    below : Goal → List (Event Answer)
    below = goal_events modes rules hyps levels

    kid_settles : (next : Assignment → List (Event (Assignment × Proofs))) (patterns : List Tree) (env : Assignment) (q : Proof) (qs : Proofs) →
        Agrees env s →
        ((more : Assignment) → match_all patterns (map (instance s) patterns) env ≡ Some more → Agrees more s → Settle (EndBefore qs) (IsEnd modes rule s qs) (next more)) →
        (found : Answer) → found ≡ (q, map (instance s) patterns) →
        Settle (EndBefore (q ⊳ qs)) (IsEnd modes rule s (q ⊳ qs)) (after_kid next patterns env found)
    kid_settles next patterns env q qs a rec found e =
        let m = match_all_found patterns (map (instance s) patterns) env s a refl in
        let at_found : match_all patterns found.1 env ≡ Some m.0 = ap (λ (x : Answer). match_all patterns x.1 env) e ∙ m.1 in
        settle-when_matched (EndBefore (q ⊳ qs)) (IsEnd modes rule s (q ⊳ qs)) (match_all patterns found.1 env) (λ more. then_each (put_first found.0) (next more)) m.0 at_found
        (settle-then_each (EndBefore (q ⊳ qs)) (put_first found.0) (EndBefore qs) (IsEnd modes rule s qs) (IsEnd modes rule s (q ⊳ qs)) (next m.0) (rec m.0 m.1 m.2)
        (λ last h. inl (record {
          same_kids = let x : found.0 ≡ q = ap (λ (y : Answer). y.0) e in let y : last.1 ≡ qs = h.same_kids in cc;
          agrees = h.agrees;
          all_bound = h.all_bound;
          outputs_bound = h.outputs_bound;
        }))
        (λ last h. (
          subst (λ (x : Proof). Precedes (order_of x ++ order_of_all last.1) (order_of q ++ order_of_all qs)) (sym (ap (λ (y : Answer). y.0) e))
              (precedes_after (order_of q) (order_of_all last.1) (order_of_all qs) h),
          tt,
        )))

    kid_passes : (next : Assignment → List (Event (Assignment × Proofs))) (patterns : List Tree) (env : Assignment) (q : Proof) (qs : Proofs) →
        (found : Answer) → AnswerBefore q found → Passes (EndBefore (q ⊳ qs)) (after_kid next patterns env found)
    kid_passes next patterns env q qs found h =
        passes-when_matched (EndBefore (q ⊳ qs)) (match_all patterns found.1 env) (λ more. then_each (put_first found.0) (next more))
        (λ more. passes-then_each (EndBefore (q ⊳ qs)) (put_first found.0) (next more)
        (λ last. (precedes-append (order_of found.0) (order_of q) (order_of_all last.1) (order_of_all qs) h, tt)))

    premises_reached : (ps : List Premise) (kids : Proofs) (env : Assignment) (Bound : ℕ → Type 0) →
        Agrees env s → ((v : ℕ) → Bound v → IsBound env v) → AreModed modes Bound ps rule → AllApart hyps s ps →
        EachReached (map (judgement_instance s) (judgements_of ps)) kids →
        Settle (EndBefore kids) (IsEnd modes rule s kids) (premise_events modes hyps (goal_events modes rules hyps levels) ps env)
    premises_reached [] (q ⊳ qs) env Bound a b m apart_ones each = absurd each
    premises_reached [] no_more env Bound a b m apart_ones each =
        inl (record { same_kids = refl; agrees = a; all_bound = λ v h. b v ((m.1 v).1 h); outputs_bound = λ v h. b v (m.0 v h) })
    premises_reached (apart t u ∷ ps) kids env Bound a b m apart_ones each =
        let et : instance (filled env) t ≡ instance s t = filled-instance env s a t (λ v h. b v (m.0 v (inl h))) in
        let eu : instance (filled env) u ≡ instance s u = filled-instance env s a u (λ v h. b v (m.0 v (inr h))) in
        let ok : are_apart hyps (instance s t) (instance s u) ≡ true = true-apart hyps (instance s t) (instance s u) apart_ones.0 in
        let ok' : are_apart hyps (instance (filled env) t) (instance (filled env) u) ≡ true = ap (λ (x : Tree). are_apart hyps x (instance (filled env) u)) et ∙ ap (λ (x : Tree). are_apart hyps (instance s t) x) eu ∙ ok in
        settle-when (EndBefore kids) (IsEnd modes rule s kids) (are_apart hyps (instance (filled env) t) (instance (filled env) u))
        (premise_events modes hyps (goal_events modes rules hyps levels) ps env) ok'
        (premises_reached ps kids env Bound a b m.1 apart_ones.1 each)
    premises_reached (holds j ∷ ps) no_more env Bound a b m apart_ones each = absurd each
    premises_reached (holds j ∷ ps) (q ⊳ qs) env Bound a b m apart_ones each =
        let next = premise_events modes hyps (goal_events modes rules hyps levels) ps in
        let patterns = outputs_of modes j in
        let goal_is : goal_of modes (judgement_instance (filled env) j) ≡ goal_of modes (judgement_instance s j) = filled-goal modes env s a j (λ v h. b v (m.0 v h)) in
        let outs_are : outputs_of modes (judgement_instance s j) ≡ map (instance s) patterns = outputs-map s (modes j.form) j.places in
        settle-unless_passed (EndBefore (q ⊳ qs)) (IsEnd modes rule s (q ⊳ qs)) (limit_passed (inputs_of modes (judgement_instance (filled env) j)))
        (then_each (after_kid next patterns env) (goal_events modes rules hyps levels (goal_of modes (judgement_instance (filled env) j))))
        (settle-then_each (EndBefore (q ⊳ qs)) (after_kid next patterns env) (AnswerBefore q) (IsAnswer q (outputs_of modes (judgement_instance s j))) (IsEnd modes rule s (q ⊳ qs))
        (goal_events modes rules hyps levels (goal_of modes (judgement_instance (filled env) j)))
        (subst (λ (g : Goal). Settle (AnswerBefore q) (IsAnswer q (outputs_of modes (judgement_instance s j))) (goal_events modes rules hyps levels g)) (sym goal_is) (each.0 levels))
        (λ found h. kid_settles next patterns env q qs a
        (λ more e agrees. let k = match_all-matches patterns (map (instance s) patterns) env more e in
        premises_reached ps qs more (λ v. Bound v ⊎ StandsAmong v patterns) agrees
        (λ v. elim [ inl x ↦ stays-bound env more k.extends v (b v x) | inr x ↦ k.every v x ]) m.1 apart_ones each.1)
        found (h ∙ ap (λ (x : List Tree). let y : Answer = (q, x) in y) outs_are))
        (λ found h. kid_passes next patterns env q qs found h))

  -- what the rule gives at the end is the answer, and what it gives before that is before it
  end_concludes : (r : ℕ) (rule : Rule) (binds : List Tree) (kids : Proofs) → length binds ≡ length rule.sorts → (found : Assignment × Proofs) →
      IsEnd modes rule (bound_by binds) kids found →
      Settle (AnswerBefore (by r binds kids)) (IsAnswer (by r binds kids) (outputs_of modes (judgement_instance (bound_by binds) rule.conclusion))) (conclude modes r rule found)
  end_concludes r rule binds kids many found h =
      let q = by r binds kids in
      let outs = outputs_of modes (judgement_instance (bound_by binds) rule.conclusion) in
      let made = outputs_of modes (judgement_instance (filled found.0) rule.conclusion) in
      let values = first_values (length rule.sorts) (filled found.0) in
      let same_made : made ≡ outs = filled-outputs modes found.0 (bound_by binds) h.agrees rule.conclusion h.outputs_bound in
      let same_values : values ≡ binds = first_values-bound binds (length rule.sorts) (filled found.0) many (λ v k. filled-agrees found.0 (bound_by binds) h.agrees v (h.all_bound v k)) in
      let same_kids : found.1 ≡ kids = h.same_kids in
      let same_proof : by r values found.1 ≡ q = cc in
      settle-unless_passed (AnswerBefore q) (IsAnswer q outs) (limit_passed made) (give (by r values found.1, made) ∷ [])
      (inl (λ i. (same_proof i, same_made i)))

  end_passes : (r : ℕ) (rule : Rule) (binds : List Tree) (kids : Proofs) (found : Assignment × Proofs) →
      EndBefore kids found → Passes (AnswerBefore (by r binds kids)) (conclude modes r rule found)
  end_passes r rule binds kids found h =
      let made = outputs_of modes (judgement_instance (filled found.0) rule.conclusion) in
      passes-unless_passed (AnswerBefore (by r binds kids)) (limit_passed made)
      (give (by r (first_values (length rule.sorts) (filled found.0)) found.1, made) ∷ []) (inr (refl, h), tt)

  rule_reached : (levels r : ℕ) (rule : Rule) (binds : List Tree) (kids : Proofs) → length binds ≡ length rule.sorts → IsModed modes rule →
      AllApart hyps (bound_by binds) rule.premises → EachReached (map (judgement_instance (bound_by binds)) (judgements_of rule.premises)) kids →
      Settle (AnswerBefore (by r binds kids)) (IsAnswer (by r binds kids) (outputs_of modes (judgement_instance (bound_by binds) rule.conclusion)))
      (rule_events modes hyps (goal_events modes rules hyps levels) r rule (goal_of modes (judgement_instance (bound_by binds) rule.conclusion)))
  rule_reached levels r rule binds kids many moded apart_ones each =
      let s = bound_by binds in
      let q = by r binds kids in
      let outs = outputs_of modes (judgement_instance s rule.conclusion) in
      let below = goal_events modes rules hyps levels in
      let patterns = inputs_of modes rule.conclusion in
      let terms = inputs_of modes (judgement_instance s rule.conclusion) in
      let m = match_all_found patterns terms nothing_bound s (nothing_bound-agrees s) (sym (inputs-map s (modes rule.conclusion.form) rule.conclusion.places)) in
      let k = match_all-matches patterns terms nothing_bound m.0 m.1 in
      settle-when (AnswerBefore q) (IsAnswer q outs) (nat_eq rule.conclusion.form rule.conclusion.form)
      (when_matched (match_all patterns terms nothing_bound) (after_match modes hyps below r rule)) (eq-eqb rule.conclusion.form rule.conclusion.form refl)
      (settle-when_matched (AnswerBefore q) (IsAnswer q outs) (match_all patterns terms nothing_bound) (after_match modes hyps below r rule) m.0 m.1
      (settle-then_each (AnswerBefore q) (conclude modes r rule) (EndBefore kids) (IsEnd modes rule s kids) (IsAnswer q outs)
      (premise_events modes hyps below rule.premises m.0)
      (premises_reached levels rule s rule.premises kids m.0 (λ v. StandsAmong v patterns) m.2 k.every moded apart_ones each)
      (λ found h. end_concludes r rule binds kids many found h)
      (λ found h. end_passes r rule binds kids found h)))

  other_rule_passes : (levels n : ℕ) (rule : Rule) (goal : Goal) (q : Proof) → ((binds : List Tree) (kids : Proofs) → Precedes (order_of (by n binds kids)) (order_of q)) →
      Passes (AnswerBefore q) (rule_events modes hyps (goal_events modes rules hyps levels) n rule goal)
  other_rule_passes levels n rule goal q h =
      let below = goal_events modes rules hyps levels in
      passes-when (AnswerBefore q) (nat_eq rule.conclusion.form goal.form) (when_matched (match_all (inputs_of modes rule.conclusion) goal.terms nothing_bound) (after_match modes hyps below n rule))
      (passes-when_matched (AnswerBefore q) (match_all (inputs_of modes rule.conclusion) goal.terms nothing_bound) (after_match modes hyps below n rule)
      (λ env. passes-then_each (AnswerBefore q) (conclude modes n rule) (premise_events modes hyps below rule.premises env)
      (λ found. let made = outputs_of modes (judgement_instance (filled found.0) rule.conclusion) in
      passes-unless_passed (AnswerBefore q) (limit_passed made) (give (by n (first_values (length rule.sorts) (filled found.0)) found.1, made) ∷ [])
      (h (first_values (length rule.sorts) (filled found.0)) found.1, tt))))

  rules_reached : (levels n : ℕ) (some_rules : List Rule) (k r : ℕ) (rule : Rule) (goal : Goal) (binds : List Tree) (kids : Proofs) (outs : List Tree) →
      slice_get some_rules k ≡ Some rule → r ≡ n + k →
      Settle (AnswerBefore (by r binds kids)) (IsAnswer (by r binds kids) outs) (rule_events modes hyps (goal_events modes rules hyps levels) r rule goal) →
      Settle (AnswerBefore (by r binds kids)) (IsAnswer (by r binds kids) outs) (rules_events modes hyps (goal_events modes rules hyps levels) n some_rules goal)
  rules_reached levels n [] k r rule goal binds kids outs e is h = cc
  rules_reached levels n (x ∷ more) zero r rule goal binds kids outs e is h =
      let q = by r binds kids in
      let below = goal_events modes rules hyps levels in
      let same_rule : rule ≡ x = cc in
      let same_number : r ≡ n = omega arith in
      settle_left (AnswerBefore q) (IsAnswer q outs) (rule_events modes hyps below n x goal) (rules_events modes hyps below (suc n) more goal)
      (subst (λ (m : ℕ). Settle (AnswerBefore q) (IsAnswer q outs) (rule_events modes hyps below m x goal)) same_number
      (subst (λ (y : Rule). Settle (AnswerBefore q) (IsAnswer q outs) (rule_events modes hyps below r y goal)) same_rule h))
  rules_reached levels n (x ∷ more) (suc k) r rule goal binds kids outs e is h =
      let q = by r binds kids in
      let below = goal_events modes rules hyps levels in
      settle_right (AnswerBefore q) (IsAnswer q outs) (rule_events modes hyps below n x goal) (rules_events modes hyps below (suc n) more goal)
      (other_rule_passes levels n x goal q (λ bs ks. inl (omega arith)))
      (rules_reached levels (suc n) more k r rule goal binds kids outs e (omega arith) h)

  -- hypotheses
  given_passes : (i : ℕ) (j : Judgement) (goal : Goal) (q : Proof) → Precedes (of_given i ∷ []) (order_of q) → Passes (AnswerBefore q) (given_event modes i j goal)
  given_passes i j goal q h =
      passes-when (AnswerBefore q) (nat_eq j.form goal.form && same_all (inputs_of modes j) goal.terms) (give (given i, outputs_of modes j) ∷ []) (h, tt)

  givens_pass : (n : ℕ) (js : List Judgement) (goal : Goal) (q : Proof) → ((i : ℕ) → Precedes (of_given i ∷ []) (order_of q)) → Passes (AnswerBefore q) (given_events modes n js goal)
  givens_pass n [] goal q h = tt
  givens_pass n (j ∷ js) goal q h =
      passes-append (AnswerBefore q) (given_event modes n j goal) (given_events modes (suc n) js goal) (given_passes n j goal q (h n)) (givens_pass (suc n) js goal q h)

  givens_reached : (n : ℕ) (js : List Judgement) (k i : ℕ) (j : Judgement) → slice_get js k ≡ Some j → i ≡ n + k →
      Settle (AnswerBefore (given i)) (IsAnswer (given i) (outputs_of modes j)) (given_events modes n js (goal_of modes j))
  givens_reached n [] k i j e is = cc
  givens_reached n (x ∷ js) zero i j e is =
      let q = given i in
      let same_judgement : x ≡ j = cc in
      let same_number : n ≡ i = omega arith in
      let here : Settle (AnswerBefore q) (IsAnswer q (outputs_of modes j)) (given_event modes i j (goal_of modes j)) =
      settle-when (AnswerBefore q) (IsAnswer q (outputs_of modes j)) (nat_eq j.form j.form && same_all (inputs_of modes j) (inputs_of modes j))
      (give (given i, outputs_of modes j) ∷ []) (and_both (nat_eq j.form j.form) (same_all (inputs_of modes j) (inputs_of modes j)) (eq-eqb j.form j.form refl) (same_all_self (inputs_of modes j)))
      (inl refl) in
      settle_left (AnswerBefore q) (IsAnswer q (outputs_of modes j)) (given_event modes n x (goal_of modes j)) (given_events modes (suc n) js (goal_of modes j))
      (subst (λ (m : ℕ). Settle (AnswerBefore q) (IsAnswer q (outputs_of modes j)) (given_event modes m x (goal_of modes j))) (sym same_number)
      (subst (λ (y : Judgement). Settle (AnswerBefore q) (IsAnswer q (outputs_of modes j)) (given_event modes i y (goal_of modes j))) (sym same_judgement) here))
  givens_reached n (x ∷ js) (suc k) i j e is =
      let q = given i in
      settle_right (AnswerBefore q) (IsAnswer q (outputs_of modes j)) (given_event modes n x (goal_of modes j)) (given_events modes (suc n) js (goal_of modes j))
      (given_passes n x (goal_of modes j) q (inl (omega arith)))
      (givens_reached (suc n) js k i j e (omega arith))

  -- every derivation
  module _ (moded : AllModed modes rules) where
    given_case : (i : ℕ) (j : Judgement) → slice_get hyps.judgements i ≡ Some j → Reached j (given i)
    unfolding goal_events
    given_case i j h zero = tt
    given_case i j h (suc levels) =
        settle_left (AnswerBefore (given i)) (IsAnswer (given i) (outputs_of modes j)) (given_events modes zero hyps.judgements (goal_of modes j))
        (rules_events modes hyps (goal_events modes rules hyps levels) zero rules (goal_of modes j))
        (givens_reached zero hyps.judgements i i j h (omega arith))

    rule_case : (r : ℕ) (binds : List Tree) (kids : Proofs) (rule : Rule) → slice_get rules r ≡ Some rule → length binds ≡ length rule.sorts →
        AllApart hyps (bound_by binds) rule.premises → EachReached (map (judgement_instance (bound_by binds)) (judgements_of rule.premises)) kids →
        Reached (judgement_instance (bound_by binds) rule.conclusion) (by r binds kids)
    unfolding goal_events
    rule_case r binds kids rule found many apart_ones each zero = tt
    rule_case r binds kids rule found many apart_ones each (suc levels) =
        let j = judgement_instance (bound_by binds) rule.conclusion in
        let q = by r binds kids in
        settle_right (AnswerBefore q) (IsAnswer q (outputs_of modes j)) (given_events modes zero hyps.judgements (goal_of modes j))
        (rules_events modes hyps (goal_events modes rules hyps levels) zero rules (goal_of modes j))
        (givens_pass zero hyps.judgements (goal_of modes j) q (λ i. inl tt))
        (rules_reached levels zero rules r r rule (goal_of modes j) binds kids (outputs_of modes j) found (omega arith)
        (rule_reached levels r rule binds kids many (moded-at modes rules r rule moded found) apart_ones each))

    mutual
      pub reached : (q : Proof) (j : Judgement) → Derives rules hyps j q → Reached j q
      reached (given i) j h = given_case i j h
      reached (by r binds kids) j (rule, found, many, concluded, apart_ones, each) =
          subst (λ (k : Judgement). Reached k (by r binds kids)) concluded
          (rule_case r binds kids rule found many apart_ones (each_reached kids (map (judgement_instance (bound_by binds)) (judgements_of rule.premises)) each))

      pub each_reached : (qs : Proofs) (js : List Judgement) → DeriveEach rules hyps js qs → EachReached js qs
      each_reached no_more [] h = tt
      each_reached no_more (j ∷ js) h = absurd h
      each_reached (q ⊳ qs) [] h = absurd h
      each_reached (q ⊳ qs) (j ∷ js) h = (reached q j h.0, each_reached qs js h.1)
