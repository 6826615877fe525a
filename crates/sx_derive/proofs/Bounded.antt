use Rattle.std.proofs.Common.{◌≡◌, ℕ, zero, suc, ◌-◌, ◌≤◌, ◌&&◌, Bool, true, false, List, [], ◌∷◌, ◌⊎◌, inl, inr, map, length, Option, Some, None, refl, sym, ap, ◌∙◌, subst, arith}
use Rattle.std.specs.Prelude.{nat_eq}
use Rattle.sx_term.specs.Tree.{Tree, Trees, node, lexeme, hole, none, ◌▹◌, depth_of, greatest_depth}
use Rattle.sx_rules.specs.Instances.{instance, instances, Stands, StandsInKids, StandsAmong}
use Rattle.sx_arena.specs.Matching.{same_all, Assignment, nothing_bound, match_all, value_or}
use Rattle.sx_arena.specs.Matching.{filled, IsBound}
use Rattle.sx_rules.specs.Rules.{Judgement, Premise, holds, apart, Rule, Hypotheses}
use Rattle.sx_rules.specs.Rules.{judgement_instance}
use Rattle.sx_rules.specs.Modes.{Modes, outputs, inputs_of, outputs_of, Goal, goal_of}
use Rattle.sx_rules.specs.Derivations.{Proofs, by, given, height_of, most_height, AreShallow}
use Rattle.sx_rules.specs.Derivations.{HasShallowBinds, HaveShallowBinds, ShallowJudgements}
use Rattle.sx_derive.specs.Walk.{Cause, Event, give, Answer, then_each, when_matched, limit_passed}
use Rattle.sx_derive.specs.Walk.{unless_passed, are_apart, put_first, after_kid, premise_events}
use Rattle.sx_derive.specs.Walk.{first_values, conclude, after_match, rule_events, rules_events}
use Rattle.sx_derive.specs.Walk.{given_event, given_events, goal_events, events}
use Rattle.sx_derive.specs.Search.{EachGiven}
use Rattle.sx_derive.specs.Laws.{AnswersAreBounded}
use Rattle.sx_arena.proofs.Matchings.{MatchesAll, match_all-matches}
use Rattle.sx_arena.proofs.Exact.{filled_agrees}
use Rattle.sx_arena.proofs.Kept.{limit_shallow}
use Rattle.sx_derive.proofs.Sound.{given-append, given-when, given-when_matched, given-then_each}

-- a variable's value is no deeper than the instance
mutual
  pub depth-instance : (s : ℕ → Tree) (t : Tree) (v : ℕ) → Stands v t → depth_of (s v) ≤ depth_of (instance s t)
  depth-instance s (node l ts) v h = let k = depth-instances s ts v h in omega arith
  depth-instance s (lexeme x y) v h = absurd h
  depth-instance s (hole w) v h = subst (λ (x : ℕ). depth_of (s v) ≤ depth_of (s x)) h (let r : depth_of (s v) ≤ depth_of (s v) = omega arith in r)

  depth-instances : (s : ℕ → Tree) (ts : Trees) (v : ℕ) → StandsInKids v ts → depth_of (s v) ≤ greatest_depth (instances s ts)
  depth-instances s none v h = absurd h
  depth-instances s (t ▹ ts) v (inl h) = let k = depth-instance s t v h in omega arith
  depth-instances s (t ▹ ts) v (inr h) = let k = depth-instances s ts v h in omega arith

shallow_value : (s : ℕ → Tree) (ts : List Tree) (v : ℕ) → StandsAmong v ts → AreShallow (map (instance s) ts) → depth_of (s v) ≤ 1000
shallow_value s [] v h k = absurd h
shallow_value s (t ∷ ts) v (inl h) k = let d = depth-instance s t v h in omega (arith, d, k.0)
shallow_value s (t ∷ ts) v (inr h) k = shallow_value s ts v h k.1

pub shallow_outputs : (bs : List Bool) (ts : List Tree) → AreShallow ts → AreShallow (outputs bs ts)
shallow_outputs [] ts h = tt
shallow_outputs (b ∷ bs) [] h = tt
shallow_outputs (true ∷ bs) (t ∷ ts) h = (h.0, shallow_outputs bs ts h.1)
shallow_outputs (false ∷ bs) (t ∷ ts) h = shallow_outputs bs ts h.1

-- the bindings of an assignment
abbrev IsShallow : Assignment → Type 0
IsShallow env = (v : ℕ) (u : Tree) → env v ≡ Some u → depth_of u ≤ 1000

unbound_shallow : IsShallow nothing_bound
unbound_shallow v u e = cc

match_shallow : (ps ts : List Tree) (env more : Assignment) → match_all ps ts env ≡ Some more → AreShallow ts → IsShallow env → IsShallow more
match_shallow ps ts env more e h k v u q = go (m.only v (u, q))
  where
    m : MatchesAll ps ts env more
    m = match_all-matches ps ts env more e

    go : IsBound env v ⊎ StandsAmong v ps → depth_of u ≤ 1000
    go (inl x) =
        let same_some : Some x.0 ≡ Some u = sym (m.extends v x.0 x.1) ∙ q in
        let same_term : x.0 ≡ u = cc in subst (λ (t : Tree). depth_of t ≤ 1000) same_term (k v x.0 x.1)
    go (inr x) =
        let all = subst (λ (us : List Tree). AreShallow us) (sym (m.instance_is (filled more) (filled_agrees more))) h in
        subst (λ (t : Tree). depth_of t ≤ 1000) (ap value_or q) (shallow_value (filled more) ps v x all)

value_shallow : (env : Assignment) → IsShallow env → (v : ℕ) → depth_of (filled env v) ≤ 1000
value_shallow env h v = go (env v) refl
  where
    go : (o : Option Tree) → env v ≡ o → depth_of (value_or o) ≤ 1000
    go None e = omega arith
    go (Some u) e = h v u e

values_shallow : (n : ℕ) (s : ℕ → Tree) → ((v : ℕ) → depth_of (s v) ≤ 1000) → AreShallow (first_values n s)
values_shallow zero s h = tt
values_shallow (suc n) s h = (h 0, values_shallow n (λ v. s (suc v)) (λ v. h (suc v)))

given_unless : {A : Type 0} (P : A → Type 0) (c : Option Cause) (es : List (Event A)) → (c ≡ None → EachGiven P es) → EachGiven P (unless_passed c es)
given_unless P None es h = h refl
given_unless P (Some c) es h = tt

abbrev pub IsBoundedAnswer : ℕ → Answer → Type 0
IsBoundedAnswer levels a = (height_of a.0 ≤ levels) × HasShallowBinds a.0 × AreShallow a.1

abbrev IsBoundedEnd : ℕ → Assignment × Proofs → Type 0
IsBoundedEnd levels found = (most_height found.1 ≤ levels) × HaveShallowBinds found.1 × IsShallow found.0

module _ (modes : Modes) (rules : List Rule) (hyps : Hypotheses) (hyps_shallow : ShallowJudgements hyps.judgements) where
  module _ (levels : ℕ) (below : Goal → List (Event Answer)) (bounded : (goal : Goal) → AreShallow goal.terms → EachGiven (IsBoundedAnswer levels) (below goal)) where
    premises_bounded : (ps : List Premise) (env : Assignment) → IsShallow env → EachGiven (IsBoundedEnd levels) (premise_events modes hyps below ps env)
    premises_bounded [] env h = ((omega arith, tt, h), tt)
    premises_bounded (apart t u ∷ ps) env h =
        given-when (IsBoundedEnd levels) (are_apart hyps (instance (filled env) t) (instance (filled env) u)) (premise_events modes hyps below ps env) (λ e. premises_bounded ps env h)
    premises_bounded (holds j ∷ ps) env h =
        let made = judgement_instance (filled env) j in
        let next = premise_events modes hyps below ps in
        let patterns = outputs_of modes j in
        given_unless (IsBoundedEnd levels) (limit_passed (inputs_of modes made)) (then_each (after_kid next patterns env) (below (goal_of modes made)))
        (λ none_passed. given-then_each (IsBoundedAnswer levels) (IsBoundedEnd levels) (after_kid next patterns env) (below (goal_of modes made)) (bounded (goal_of modes made) (limit_shallow (inputs_of modes made) none_passed))
        (λ found b. given-when_matched (IsBoundedEnd levels) (match_all patterns found.1 env) (λ more. then_each (put_first found.0) (next more))
        (λ more e. given-then_each (IsBoundedEnd levels) (IsBoundedEnd levels) (put_first found.0) (next more)
        (premises_bounded ps more (match_shallow patterns found.1 env more e b.2 h))
        (λ last k. let x : height_of found.0 ≤ levels = b.0 in let y : most_height last.1 ≤ levels = k.0 in ((omega arith, (b.1, k.1), k.2), tt)))))

    rule_bounded : (r : ℕ) (rule : Rule) (goal : Goal) → AreShallow goal.terms → EachGiven (IsBoundedAnswer (suc levels)) (rule_events modes hyps below r rule goal)
    rule_bounded r rule goal h =
        let P = IsBoundedAnswer (suc levels) in
        let patterns = inputs_of modes rule.conclusion in
        given-when P (nat_eq rule.conclusion.form goal.form) (when_matched (match_all patterns goal.terms nothing_bound) (after_match modes hyps below r rule))
        (λ same_form. given-when_matched P (match_all patterns goal.terms nothing_bound) (after_match modes hyps below r rule)
        (λ env e. given-then_each (IsBoundedEnd levels) P (conclude modes r rule) (premise_events modes hyps below rule.premises env)
        (premises_bounded rule.premises env (match_shallow patterns goal.terms nothing_bound env e h unbound_shallow))
        (λ found k.
        let made = outputs_of modes (judgement_instance (filled found.0) rule.conclusion) in
        let x : most_height found.1 ≤ levels = k.0 in
        given_unless P (limit_passed made) (give (by r (first_values (length rule.sorts) (filled found.0)) found.1, made) ∷ [])
        (λ none_passed. ((omega arith, (values_shallow (length rule.sorts) (filled found.0) (value_shallow found.0 k.2), k.1), limit_shallow made none_passed), tt)))))

    rules_bounded : (n : ℕ) (rs : List Rule) (goal : Goal) → AreShallow goal.terms → EachGiven (IsBoundedAnswer (suc levels)) (rules_events modes hyps below n rs goal)
    rules_bounded n [] goal h = tt
    rules_bounded n (x ∷ rs) goal h =
        given-append (IsBoundedAnswer (suc levels)) (rule_events modes hyps below n x goal) (rules_events modes hyps below (suc n) rs goal) (rule_bounded n x goal h) (rules_bounded (suc n) rs goal h)

  givens_bounded : (levels n : ℕ) (js : List Judgement) (goal : Goal) → ShallowJudgements js → EachGiven (IsBoundedAnswer (suc levels)) (given_events modes n js goal)
  givens_bounded levels n [] goal h = tt
  givens_bounded levels n (j ∷ js) goal h =
      given-append (IsBoundedAnswer (suc levels)) (given_event modes n j goal) (given_events modes (suc n) js goal)
      (given-when (IsBoundedAnswer (suc levels)) (nat_eq j.form goal.form && same_all (inputs_of modes j) goal.terms) (give (given n, outputs_of modes j) ∷ [])
      (λ e. ((omega arith, tt, shallow_outputs (modes j.form) j.places h.0), tt)))
      (givens_bounded levels (suc n) js goal h.1)

  pub events_bounded : (levels : ℕ) (goal : Goal) → AreShallow goal.terms → EachGiven (IsBoundedAnswer levels) (goal_events modes rules hyps levels goal)
  unfolding goal_events
  events_bounded zero goal h = tt
  events_bounded (suc levels) goal h =
      given-append (IsBoundedAnswer (suc levels)) (given_events modes zero hyps.judgements goal) (rules_events modes hyps (goal_events modes rules hyps levels) zero rules goal)
      (givens_bounded levels zero hyps.judgements goal hyps_shallow)
      (rules_bounded levels (goal_events modes rules hyps levels) (events_bounded levels) zero rules goal h)

pub answers_are_bounded : AnswersAreBounded
unfolding events
answers_are_bounded modes rules hyps hyps_shallow goal depth h = events_bounded modes rules hyps hyps_shallow (3001 - depth) goal h
