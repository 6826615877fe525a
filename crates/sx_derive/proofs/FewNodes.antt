-- Each node of what is given is one of the tries before it.
use Rattle.std.proofs.Common.{◌≡◌, ℕ, zero, suc, ◌+◌, ◌≤◌, Bool, true, false, List, [], ◌∷◌, ◌++◌, length, Option, Some, None, subst, arith}
use Rattle.std.specs.Prelude.{nat_eq, ◌&&◌, ◌-◌}
use Rattle.sx_term.specs.Tree.{Tree}
use Rattle.sx_rules.specs.Instances.{instance}
use Rattle.sx_arena.specs.Matching.{same_all, Assignment, nothing_bound, match_all, filled}
use Rattle.sx_rules.specs.Rules.{Judgement, Premise, holds, apart, Rule, Hypotheses}
use Rattle.sx_rules.specs.Rules.{judgement_instance}
use Rattle.sx_rules.specs.Modes.{Modes, inputs_of, outputs_of, Goal, goal_of}
use Rattle.sx_rules.specs.Derivations.{Proofs, by, given, nodes_of, nodes_of_all}
use Rattle.sx_derive.specs.Walk.{Cause, Event, try, give, stop, Answer, then_each, when}
use Rattle.sx_derive.specs.Walk.{when_matched, limit_passed, unless_passed, are_apart, put_first}
use Rattle.sx_derive.specs.Walk.{after_kid, premise_events, first_values, conclude, after_match}
use Rattle.sx_derive.specs.Walk.{rule_events, rules_events, given_event, given_events, goal_events}
use Rattle.sx_derive.specs.Walk.{events}
use Rattle.sx_derive.specs.Search.{Ending, found, are_wanted, found_when, walk, tries_unless}
use Rattle.sx_derive.specs.Search.{tries_of}
use Rattle.sx_derive.specs.Laws.{FoundHasFewNodes}

-- each thing given weighs no more than the tries before it, with so many made before the first event
abbrev Enough : {A : Type 0} → (A → ℕ) → ℕ → List (Event A) → Type 0
Enough weight n [] = Unit {0}
Enough weight n (try ∷ es) = Enough weight (suc n) es
Enough weight n (stop c ∷ es) = Enough weight n es
Enough weight n (give a ∷ es) = (weight a ≤ n) × Enough weight n es

module _ {A : Type 0} (weight : A → ℕ) where
  enough-more : (n m : ℕ) (es : List (Event A)) → n ≤ m → Enough weight n es → Enough weight m es
  enough-more n m [] l h = tt
  enough-more n m (try ∷ es) l h = enough-more (suc n) (suc m) es (omega arith) h
  enough-more n m (stop c ∷ es) l h = enough-more n m es l h
  enough-more n m (give a ∷ es) l h = (let k : weight a ≤ n = h.0 in omega arith, enough-more n m es l h.1)

  enough-append : (n : ℕ) (es fs : List (Event A)) → Enough weight n es → Enough weight n fs → Enough weight n (es ++ fs)
  enough-append n [] fs h k = k
  enough-append n (try ∷ es) fs h k = enough-append (suc n) es fs h (enough-more n (suc n) fs (omega arith) k)
  enough-append n (stop c ∷ es) fs h k = enough-append n es fs h k
  enough-append n (give a ∷ es) fs h k = (h.0, enough-append n es fs h.1 k)

  enough-plus : (k n m : ℕ) (es : List (Event A)) → n + k ≤ m → Enough weight n es → Enough (λ a. weight a + k) m es
  enough-plus k n m [] l h = tt
  enough-plus k n m (try ∷ es) l h = enough-plus k (suc n) (suc m) es (omega arith) h
  enough-plus k n m (stop c ∷ es) l h = enough-plus k n m es l h
  enough-plus k n m (give a ∷ es) l h = (let x : weight a ≤ n = h.0 in omega arith, enough-plus k n m es l h.1)

  enough-when : (b : Bool) (n : ℕ) (es : List (Event A)) → Enough weight n es → Enough weight n (when b es)
  enough-when true n es h = h
  enough-when false n es h = tt

  enough-when_matched : (r : Option Assignment) (n : ℕ) (f : Assignment → List (Event A)) → ((env : Assignment) → Enough weight n (f env)) → Enough weight n (when_matched r f)
  enough-when_matched None n f h = tt
  enough-when_matched (Some env) n f h = h env

  enough-unless_passed : (c : Option Cause) (n : ℕ) (es : List (Event A)) → Enough weight n es → Enough weight n (unless_passed c es)
  enough-unless_passed None n es h = h
  enough-unless_passed (Some c) n es h = tt

enough-then_each : {A C : Type 0} (one : A → ℕ) (other : C → ℕ) (f : A → List (Event C)) (n : ℕ) (es : List (Event A)) → Enough one n es →
    ((a : A) (m : ℕ) → one a ≤ m → Enough other m (f a)) → Enough other n (then_each f es)
enough-then_each one other f n [] h k = tt
enough-then_each one other f n (try ∷ es) h k = enough-then_each one other f (suc n) es h k
enough-then_each one other f n (stop c ∷ es) h k = enough-then_each one other f n es h k
enough-then_each one other f n (give a ∷ es) h k = enough-append other n (f a) (then_each f es) (k a n h.0) (enough-then_each one other f n es h.1 k)

abbrev weight_of : Answer → ℕ
weight_of a = nodes_of a.0

abbrev kids_weigh : Assignment × Proofs → ℕ
kids_weigh end = nodes_of_all end.1

module _ (modes : Modes) (rules : List Rule) (hyps : Hypotheses) where
  module _ (below : Goal → List (Event Answer)) (enough : (g : Goal) → Enough weight_of 0 (below g)) where
    premises_enough : (ps : List Premise) (env : Assignment) → Enough kids_weigh 0 (premise_events modes hyps below ps env)
    premises_enough [] env = (omega arith, tt)
    premises_enough (apart t u ∷ ps) env =
        enough-when kids_weigh (are_apart hyps (instance (filled env) t) (instance (filled env) u)) 0 (premise_events modes hyps below ps env) (premises_enough ps env)
    premises_enough (holds j ∷ ps) env =
        let next = premise_events modes hyps below ps in
        let patterns = outputs_of modes j in
        let goal = goal_of modes (judgement_instance (filled env) j) in
        enough-unless_passed kids_weigh (limit_passed (inputs_of modes (judgement_instance (filled env) j))) 0 (then_each (after_kid next patterns env) (below goal))
        (enough-then_each weight_of kids_weigh (after_kid next patterns env) 0 (below goal) (enough goal)
        (λ found n l. enough-when_matched kids_weigh (match_all patterns found.1 env) n (λ more. then_each (put_first found.0) (next more))
        (λ more. enough-then_each (λ end. kids_weigh end + nodes_of found.0) kids_weigh (put_first found.0) n (next more)
        (let k : nodes_of found.0 ≤ n = l in enough-plus kids_weigh (nodes_of found.0) 0 n (next more) (omega arith) (premises_enough ps more))
        (λ last m k. (omega arith, tt)))))

    rule_enough : (r : ℕ) (rule : Rule) (goal : Goal) → Enough weight_of 1 (rule_events modes hyps below r rule goal)
    rule_enough r rule goal =
        let patterns = inputs_of modes rule.conclusion in
        enough-when weight_of (nat_eq rule.conclusion.form goal.form) 1 (when_matched (match_all patterns goal.terms nothing_bound) (after_match modes hyps below r rule))
        (enough-when_matched weight_of (match_all patterns goal.terms nothing_bound) 1 (after_match modes hyps below r rule)
        (λ env. enough-then_each (λ end. kids_weigh end + 1) weight_of (conclude modes r rule) 1 (premise_events modes hyps below rule.premises env)
        (enough-plus kids_weigh 1 0 1 (premise_events modes hyps below rule.premises env) (omega arith) (premises_enough rule.premises env))
        (λ found n l.
        let made = outputs_of modes (judgement_instance (filled found.0) rule.conclusion) in
        enough-unless_passed weight_of (limit_passed made) n (give (by r (first_values (length rule.sorts) (filled found.0)) found.1, made) ∷ []) (l, tt))))

    rules_enough : (n r : ℕ) (some_rules : List Rule) (goal : Goal) → Enough weight_of n (rules_events modes hyps below r some_rules goal)
    rules_enough n r [] goal = tt
    rules_enough n r (x ∷ more) goal =
        enough-append weight_of (suc n) (rule_events modes hyps below r x goal) (rules_events modes hyps below (suc r) more goal)
        (enough-more weight_of 1 (suc n) (rule_events modes hyps below r x goal) (omega arith) (rule_enough r x goal))
        (rules_enough (suc n) (suc r) more goal)

  givens_enough : (n i : ℕ) (js : List Judgement) (goal : Goal) → Enough weight_of n (given_events modes i js goal)
  givens_enough n i [] goal = tt
  givens_enough n i (j ∷ js) goal =
      enough-append weight_of (suc n) (given_event modes i j goal) (given_events modes (suc i) js goal)
      (enough-when weight_of (nat_eq j.form goal.form && same_all (inputs_of modes j) goal.terms) (suc n) (give (given i, outputs_of modes j) ∷ []) (omega arith, tt))
      (givens_enough (suc n) (suc i) js goal)

  events_enough : (levels : ℕ) (goal : Goal) → Enough weight_of 0 (goal_events modes rules hyps levels goal)
  unfolding goal_events
  events_enough zero goal = tt
  events_enough (suc levels) goal =
      enough-append weight_of 0 (given_events modes 0 hyps.judgements goal) (rules_events modes hyps (goal_events modes rules hyps levels) 0 rules goal)
      (givens_enough 0 0 hyps.judgements goal)
      (rules_enough (goal_events modes rules hyps levels) (events_enough levels) 0 0 rules goal)

found_same : (x a : Answer) → found x ≡ found a → x ≡ a
found_same x a e = cc

given_few : (b : Bool) (x a : Answer) (n t : ℕ) (rest : Ending) → nodes_of x.0 ≤ n → (rest ≡ found a → nodes_of a.0 ≤ n + t) → found_when b x rest ≡ found a → nodes_of a.0 ≤ n + tries_unless b t
given_few true x a n t rest l k e = let m : nodes_of a.0 ≤ n = subst (λ (y : Answer). nodes_of y.0 ≤ n) (found_same x a e) l in omega arith
given_few false x a n t rest l k e = k e

walk_few : (wanted : Option (List Tree)) (budget n : ℕ) (es : List (Event Answer)) (a : Answer) → Enough weight_of n es → walk wanted budget es ≡ found a → nodes_of a.0 ≤ n + tries_of wanted budget es
walk_few wanted zero n [] a h e = cc
walk_few wanted (suc budget) n [] a h e = cc
walk_few wanted zero n (try ∷ es) a h e = cc
walk_few wanted (suc budget) n (try ∷ es) a h e = let r = walk_few wanted budget (suc n) es a h e in omega arith
walk_few wanted zero n (stop c ∷ es) a h e = cc
walk_few wanted (suc budget) n (stop c ∷ es) a h e = cc
walk_few wanted zero n (give x ∷ es) a h e =
    given_few (are_wanted wanted x.1) x a n (tries_of wanted zero es) (walk wanted zero es) h.0 (walk_few wanted zero n es a h.1) e
walk_few wanted (suc budget) n (give x ∷ es) a h e =
    given_few (are_wanted wanted x.1) x a n (tries_of wanted (suc budget) es) (walk wanted (suc budget) es) h.0 (walk_few wanted (suc budget) n es a h.1) e

unless_within : (b : Bool) (n budget : ℕ) → n ≤ budget → tries_unless b n ≤ budget
unless_within true n budget l = omega arith
unless_within false n budget l = l

pub tries_within : (wanted : Option (List Tree)) (budget : ℕ) (es : List (Event Answer)) → tries_of wanted budget es ≤ budget
tries_within wanted zero [] = omega arith
tries_within wanted (suc budget) [] = omega arith
tries_within wanted zero (try ∷ es) = omega arith
tries_within wanted (suc budget) (try ∷ es) = let r = tries_within wanted budget es in omega arith
tries_within wanted zero (stop c ∷ es) = omega arith
tries_within wanted (suc budget) (stop c ∷ es) = omega arith
tries_within wanted zero (give x ∷ es) = unless_within (are_wanted wanted x.1) (tries_of wanted zero es) zero (tries_within wanted zero es)
tries_within wanted (suc budget) (give x ∷ es) = unless_within (are_wanted wanted x.1) (tries_of wanted (suc budget) es) (suc budget) (tries_within wanted (suc budget) es)

pub few_nodes : FoundHasFewNodes
unfolding events
few_nodes modes rules hyps goal wanted budget depth a e =
    let es = events modes rules hyps goal depth in
    let few = walk_few wanted budget 0 es a (events_enough modes rules hyps (3001 - depth) goal) e in
    (omega arith, tries_within wanted budget es)
