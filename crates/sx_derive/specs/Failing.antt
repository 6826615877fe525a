-- Where a goal without an answer leads: which premise of its first candidate has none, and so on.
use Rattle.std.specs.Prelude.{◌≡◌, ℕ, zero, suc, true, List, [], ◌∷◌, ◌⊎◌, Some, None}
use Rattle.sx_arena.specs.Matching.{Assignment, match_all, filled}
use Rattle.sx_rules.specs.Instances.{instance}
use Rattle.sx_rules.specs.Rules.{Premise, holds, apart, Rule, Hypotheses, judgement_instance}
use Rattle.sx_rules.specs.Modes.{Modes, outputs_of, Goal, goal_of}
use Rattle.sx_derive.specs.Quiet.{first_given}
use Rattle.sx_derive.specs.Stuck.{rule_match}
use Rattle.sx_derive.specs.Walk.{Event, Answer, are_apart, goal_events}

module _ (modes : Modes) (rules : List Rule) (hyps : Hypotheses) where
  -- the premises from number i on: those before that with number k hold, each judgement by its
  -- first answer, that one has no answer, and the further notes hold of its goal
  abbrev pub PremisesFail : (Goal → List ℕ → Type 0) → (Goal → List (Event Answer)) → ℕ → ℕ →
      List ℕ → List Premise → Assignment → Type 0
  PremisesFail Noted events_of i k ks [] env = ⊥
  PremisesFail Noted events_of i k ks (apart t u ∷ ps) env =
      (are_apart hyps (instance (filled env) t) (instance (filled env) u) ≡ true)
      × PremisesFail Noted events_of (suc i) k ks ps env
  PremisesFail Noted events_of i k ks (holds j ∷ ps) env =
      (i ≡ k)
      × (first_given (events_of (goal_of modes (judgement_instance (filled env) j))) ≡ None)
      × Noted (goal_of modes (judgement_instance (filled env) j)) ks
      ⊎ (i ≡ k → ⊥)
      × ((a : Answer) × (more : Assignment)
      × (first_given (events_of (goal_of modes (judgement_instance (filled env) j))) ≡ Some a)
      × (match_all (outputs_of modes j) a.1 env ≡ Some more)
      × PremisesFail Noted events_of (suc i) k ks ps more)

  -- the first of the rules whose inputs match
  abbrev pub RulesFail : (Goal → List ℕ → Type 0) → (Goal → List (Event Answer)) → ℕ → List ℕ →
      List Rule → Goal → Type 0
  RulesFail Noted events_of k ks [] goal = Unit {0}
  RulesFail Noted events_of k ks (rule ∷ rest) goal =
      ((env : Assignment) → rule_match modes rule goal ≡ Some env →
      PremisesFail Noted events_of 0 k ks rule.premises env)
      × (rule_match modes rule goal ≡ None → RulesFail Noted events_of k ks rest goal)

  -- the notes of a goal with that many levels, its own counted: where it leads without an answer
  unfoldable pub FailsAlong : ℕ → Goal → List ℕ → Type 0
  FailsAlong levels goal [] = Unit {0}
  FailsAlong zero goal (k ∷ ks) = Unit {0}
  FailsAlong (suc levels) goal (k ∷ ks) =
      RulesFail (FailsAlong levels) (goal_events modes rules hyps levels) k ks rules goal
