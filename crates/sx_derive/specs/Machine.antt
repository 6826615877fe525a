-- The walk as a machine: a stack of tasks, each with the frames that wait for its answers.
use Rattle.std.specs.Prelude.{
  ℕ,
  zero,
  suc,
  ◌&&◌,
  Bool,
  true,
  false,
  List,
  [],
  ◌∷◌,
  ◌++◌,
  length,
  Option,
  Some,
  None,
  nat_eq,
}
use Rattle.sx_term.specs.Tree.{Tree}
use Rattle.sx_rules.specs.Instances.{instance}
use Rattle.sx_arena.specs.Matching.{same_all, Assignment, nothing_bound, match_all, filled}
use Rattle.sx_rules.specs.Rules.{
  Judgement,
  Premise,
  holds,
  apart,
  Rule,
  Hypotheses,
  judgement_instance,
}
use Rattle.sx_rules.specs.Modes.{Modes, inputs_of, outputs_of, Goal, goal_of}
use Rattle.sx_rules.specs.Derivations.{Proofs, by, given, no_more, ◌⊳◌}
use Rattle.sx_derive.specs.Walk.{
  Cause,
  depth_spent,
  Event,
  give,
  stop,
  Answer,
  then_each,
  when_matched,
  limit_passed,
  are_apart,
  premise_events,
  first_values,
  conclude,
  rules_events,
  given_events,
  goal_events,
}

-- the proofs of the one list and then those of the other
abbrev pub joined_proofs : Proofs → Proofs → Proofs
joined_proofs no_more qs = qs
joined_proofs (p ⊳ ps) qs = p ⊳ joined_proofs ps qs

-- a rule whose premise is in work: the premises after it, the premise's outputs, the bindings, the
-- kids so far and the levels below
pub record Frame : Type 0 where
  pub number : ℕ
  pub rule : Rule
  pub rest : List Premise
  pub patterns : List Tree
  pub env : Assignment
  pub kids : Proofs
  pub levels : ℕ

-- candidates of a goal that are still to be tried, and the frames that wait for its answers
pub data Task : Type 0 where
  hypotheses_from : ℕ → List Judgement → ℕ → Goal → List Frame → Task
  rules_from : ℕ → List Rule → ℕ → Goal → List Frame → Task

-- what comes of a candidate: nothing, a stop, an answer of the first goal, or a new goal
pub data Result : Type 0 where
  nothing : Result
  stops : Cause → Result
  answers : Answer → Result
  goes_on : Task → Result

-- the result where the condition holds, and else nothing
abbrev pub result_when : Bool → Result → Result
result_when true r = r
result_when false r = nothing

-- the result under the bindings of a match, and else nothing
abbrev pub result_matched : Option Assignment → (Assignment → Result) → Result
result_matched None f = nothing
result_matched (Some env) f = f env

-- a stop where a limit is passed, and else the result
abbrev pub result_unless : Option Cause → Result → Result
result_unless None r = r
result_unless (Some c) r = stops c

-- a goal with that many levels, its own counted, and the frames that wait for it
abbrev pub goal_result : Hypotheses → ℕ → Goal → List Frame → Result
goal_result hyps zero goal frames = stops depth_spent
goal_result hyps (suc levels) goal frames =
    goes_on (hypotheses_from 0 hyps.judgements levels goal frames)

-- the premises from here on, with the bindings and the kids so far; then the answer is handed on
abbrev pub premises_result : Modes → Hypotheses → ℕ → Rule → ℕ → List Frame → (Answer → Result) →
    List Premise → Assignment → Proofs → Result
premises_result modes hyps r rule levels frames next [] env kids =
    let made = outputs_of modes (judgement_instance (filled env) rule.conclusion) in
    result_unless (limit_passed made)
    (next (by r (first_values (length rule.sorts) (filled env)) kids, made))
premises_result modes hyps r rule levels frames next (apart t u ∷ ps) env kids =
    result_when (are_apart hyps (instance (filled env) t) (instance (filled env) u))
    (premises_result modes hyps r rule levels frames next ps env kids)
premises_result modes hyps r rule levels frames next (holds j ∷ ps) env kids =
    let made = judgement_instance (filled env) j in
    result_unless (limit_passed (inputs_of modes made))
    (goal_result hyps levels (goal_of modes made)
    (record {
      number = r;
      rule = rule;
      rest = ps;
      patterns = outputs_of modes j;
      env = env;
      kids = kids;
      levels = levels;
    } ∷ frames))

-- an answer handed to the frames that wait for it
abbrev pub hand_on : Modes → Hypotheses → List Frame → Answer → Result
hand_on modes hyps [] a = answers a
hand_on modes hyps (f ∷ fs) a =
    result_matched (match_all f.patterns a.1 f.env) (λ env.
    premises_result modes hyps f.number f.rule f.levels fs (hand_on modes hyps fs) f.rest env
    (joined_proofs f.kids (a.0 ⊳ no_more)))

-- a rule against a goal
abbrev pub rule_result : Modes → Hypotheses → ℕ → Rule → ℕ → Goal → List Frame → Result
rule_result modes hyps r rule levels goal frames =
    result_when (nat_eq rule.conclusion.form goal.form)
    (result_matched (match_all (inputs_of modes rule.conclusion) goal.terms nothing_bound) (λ env.
    premises_result modes hyps r rule levels frames (hand_on modes hyps frames) rule.premises env
    no_more))

-- a hypothesis against a goal
abbrev pub given_result : Modes → Hypotheses → ℕ → Judgement → Goal → List Frame → Result
given_result modes hyps i j goal frames =
    result_when (nat_eq j.form goal.form && same_all (inputs_of modes j) goal.terms)
    (hand_on modes hyps frames (given i, outputs_of modes j))

-- the events that follow an answer of a frame's goal
abbrev pub premises_after : Modes → List Rule → Hypotheses → ℕ → Rule → ℕ → List Premise →
    Assignment → Proofs → List (Event Answer)
premises_after modes rules hyps r rule levels ps env kids =
    then_each (λ end. conclude modes r rule (end.0, joined_proofs kids end.1))
    (premise_events modes hyps (goal_events modes rules hyps levels) ps env)

-- the events that follow an answer at one frame
abbrev pub after_frame : Modes → List Rule → Hypotheses → Frame → Answer → List (Event Answer)
after_frame modes rules hyps f a =
    when_matched (match_all f.patterns a.1 f.env) (λ env.
    premises_after modes rules hyps f.number f.rule f.levels f.rest env
    (joined_proofs f.kids (a.0 ⊳ no_more)))

-- the events that follow an answer at the frames that wait for it, the nearest first
abbrev pub after_frames : Modes → List Rule → Hypotheses → List Frame → Answer → List (Event Answer)
after_frames modes rules hyps [] a = give a ∷ []
after_frames modes rules hyps (f ∷ fs) a =
    then_each (after_frames modes rules hyps fs) (after_frame modes rules hyps f a)

-- the events that are left of a task
abbrev pub task_events : Modes → List Rule → Hypotheses → Task → List (Event Answer)
task_events modes rules hyps (hypotheses_from i js levels goal frames) =
    then_each (after_frames modes rules hyps frames)
    (given_events modes i js goal
    ++ rules_events modes hyps (goal_events modes rules hyps levels) 0 rules goal)
task_events modes rules hyps (rules_from r rs levels goal frames) =
    then_each (after_frames modes rules hyps frames)
    (rules_events modes hyps (goal_events modes rules hyps levels) r rs goal)

-- the events that are left of tasks, the first first
abbrev pub tasks_events : Modes → List Rule → Hypotheses → List Task → List (Event Answer)
tasks_events modes rules hyps [] = []
tasks_events modes rules hyps (t ∷ ts) =
    task_events modes rules hyps t ++ tasks_events modes rules hyps ts

-- the events that a result stands for
abbrev pub result_events : Modes → List Rule → Hypotheses → Result → List (Event Answer)
result_events modes rules hyps nothing = []
result_events modes rules hyps (stops c) = stop c ∷ []
result_events modes rules hyps (answers a) = give a ∷ []
result_events modes rules hyps (goes_on t) = task_events modes rules hyps t
