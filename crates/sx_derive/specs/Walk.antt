-- The walk of a goal as a list of events: what is tried, what is given, and where a limit is
-- passed.
use Rattle.std.specs.Prelude.{
  ℕ,
  zero,
  suc,
  ◌-◌,
  ◌&&◌,
  Bool,
  true,
  false,
  List,
  [],
  ◌∷◌,
  ◌++◌,
  length,
  Option,
  Some,
  None,
  nat_eq,
}
use Rattle.sx_term.specs.Tree.{Tree}
use Rattle.sx_rules.specs.Instances.{instance}
use Rattle.sx_arena.specs.Matching.{same_all, Assignment, nothing_bound, match_all, filled}
use Rattle.sx_rules.specs.Rules.{
  Judgement,
  Premise,
  holds,
  apart,
  Rule,
  Hypotheses,
  judgement_instance,
}
use Rattle.sx_rules.specs.Modes.{Modes, inputs_of, outputs_of, Goal, goal_of}
use Rattle.sx_rules.specs.Limits.{most_levels}
use Rattle.sx_rules.specs.Derivations.{Proof, Proofs, by, given, no_more, ◌⊳◌}
pub use Rattle.sx_rules.specs.First.{Answer}
pub use Rattle.sx_arena.specs.Limits.{
  Cause,
  depth_spent,
  too_deep,
  too_big,
  term_limit,
  first_cause,
  are_apart,
  first_values,
}
unfoldable pub use Rattle.sx_arena.specs.Limits.{limit_passed}

-- a step of the search: a candidate is compared, something is found, a limit is passed
pub data Event (A : Type 0) : Type 0 where
  try : Event A
  give : A → Event A
  stop : Cause → Event A

-- that many tries, and then the rest
abbrev pub tries_then : {A : Type 0} → ℕ → List (Event A) → List (Event A)
tries_then zero rest = rest
tries_then (suc n) rest = try ∷ tries_then n rest

-- the events, with f a in the place of each give a
abbrev pub then_each : {A B : Type 0} → (A → List (Event B)) → List (Event A) → List (Event B)
then_each f [] = []
then_each f (try ∷ es) = try ∷ then_each f es
then_each f (stop c ∷ es) = stop c ∷ then_each f es
then_each f (give a ∷ es) = f a ++ then_each f es

-- the events where the condition holds, and else none
abbrev pub when : {A : Type 0} → Bool → List (Event A) → List (Event A)
when true es = es
when false es = []

-- the events under the bindings of a match, and else none
abbrev pub when_matched : {A : Type 0} → Option Assignment → (Assignment → List (Event A)) →
    List (Event A)
when_matched None f = []
when_matched (Some env) f = f env

-- a stop where a limit is passed, and else the events
abbrev pub unless_passed : {A : Type 0} → Option Cause → List (Event A) → List (Event A)
unless_passed None es = es
unless_passed (Some c) es = stop c ∷ []

-- a proof before those that were found behind it
abbrev pub put_first : Proof → Assignment × Proofs → List (Event (Assignment × Proofs))
put_first kid found = give (found.0, kid ⊳ found.1) ∷ []

-- what follows a proof of a premise: its outputs are matched, and the premises after it are gone
-- through
abbrev pub after_kid : (Assignment → List (Event (Assignment × Proofs))) → List Tree → Assignment →
    Answer → List (Event (Assignment × Proofs))
after_kid next patterns env found =
    when_matched (match_all patterns found.1 env)
    (λ more. then_each (put_first found.0) (next more))

-- the events of the premises from here on: each gives the assignment at the end and a proof for
-- each judgement
abbrev pub premise_events : Modes → Hypotheses → (Goal → List (Event Answer)) → List Premise →
    Assignment → List (Event (Assignment × Proofs))
premise_events modes hyps below [] env = give (env, no_more) ∷ []
premise_events modes hyps below (apart s t ∷ ps) env =
    when (are_apart hyps (instance (filled env) s) (instance (filled env) t))
    (premise_events modes hyps below ps env)
premise_events modes hyps below (holds j ∷ ps) env =
    unless_passed (limit_passed (inputs_of modes (judgement_instance (filled env) j)))
    (then_each (after_kid (premise_events modes hyps below ps) (outputs_of modes j) env)
    (below (goal_of modes (judgement_instance (filled env) j))))

-- the rule's conclusion under the assignment at the end
abbrev pub conclude : Modes → ℕ → Rule → Assignment × Proofs → List (Event Answer)
conclude modes r rule found =
    let made = outputs_of modes (judgement_instance (filled found.0) rule.conclusion) in
    unless_passed (limit_passed made)
    (give (by r (first_values (length rule.sorts) (filled found.0)) found.1, made) ∷ [])

-- what follows where the rule's inputs match
abbrev pub after_match : Modes → Hypotheses → (Goal → List (Event Answer)) → ℕ → Rule → Assignment →
    List (Event Answer)
after_match modes hyps below r rule env =
    then_each (conclude modes r rule) (premise_events modes hyps below rule.premises env)

-- what follows the try of a rule
abbrev pub rule_events : Modes → Hypotheses → (Goal → List (Event Answer)) → ℕ → Rule → Goal →
    List (Event Answer)
rule_events modes hyps below r rule goal =
    when (nat_eq rule.conclusion.form goal.form)
    (when_matched (match_all (inputs_of modes rule.conclusion) goal.terms nothing_bound)
    (after_match modes hyps below r rule))

-- the rules from number r on, each tried
abbrev pub rules_events : Modes → Hypotheses → (Goal → List (Event Answer)) → ℕ → List Rule → Goal →
    List (Event Answer)
rules_events modes hyps below r [] goal = []
rules_events modes hyps below r (rule ∷ rules) goal =
    try ∷ (rule_events modes hyps below r rule goal
    ++ rules_events modes hyps below (suc r) rules goal)

-- what follows the try of a hypothesis
abbrev pub given_event : Modes → ℕ → Judgement → Goal → List (Event Answer)
given_event modes i j goal =
    when (nat_eq j.form goal.form && same_all (inputs_of modes j) goal.terms)
    (give (given i, outputs_of modes j) ∷ [])

-- the hypotheses from number i on, each tried
abbrev pub given_events : Modes → ℕ → List Judgement → Goal → List (Event Answer)
given_events modes i [] goal = []
given_events modes i (j ∷ js) goal =
    try ∷ (given_event modes i j goal ++ given_events modes (suc i) js goal)

-- the events of a goal below which that many levels may stand, the goal's own counted
unfoldable pub goal_events : Modes → List Rule → Hypotheses → ℕ → Goal → List (Event Answer)
goal_events modes rules hyps zero goal = stop depth_spent ∷ []
goal_events modes rules hyps (suc levels) goal =
    given_events modes 0 hyps.judgements goal
    ++ rules_events modes hyps (goal_events modes rules hyps levels) 0 rules goal

-- how many levels may stand from a depth on; the first goal has depth 1, and none is deeper than
-- 3,000
abbrev pub levels_from : ℕ → ℕ
levels_from depth = suc most_levels - depth

-- the events of a goal at a depth
unfoldable pub events : Modes → List Rule → Hypotheses → Goal → ℕ → List (Event Answer)
unfolding goal_events
events modes rules hyps goal depth = goal_events modes rules hyps (levels_from depth) goal
