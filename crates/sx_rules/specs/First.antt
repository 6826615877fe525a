-- The first derivation of a goal.
use Rattle.std.specs.Prelude.{◌≡◌, List, Option, Some, None}
use Rattle.sx_term.specs.Tree.{Tree}
use Rattle.sx_rules.specs.Rules.{Judgement, Rule, Hypotheses}
use Rattle.sx_rules.specs.Modes.{Modes, outputs_of, Goal, goal_of}
use Rattle.sx_rules.specs.Derivations.{Proof, Derives}
use Rattle.sx_rules.specs.Orders.{order_of, IsAtMost}

-- a derivation, and the outputs that it gives
abbrev pub Answer : Type 0
Answer = Proof × List Tree

-- the proof derives the goal with those outputs
abbrev pub DerivesGoal : Modes → List Rule → Hypotheses → Goal → Answer → Type 0
DerivesGoal modes rules hyps goal answer =
    (j : Judgement) × (goal_of modes j ≡ goal) × (outputs_of modes j ≡ answer.1) ×
    Derives rules hyps j answer.0

-- the outputs are the wanted ones, where some are wanted
abbrev pub AreWanted : Option (List Tree) → List Tree → Type 0
AreWanted None outs = Unit {0}
AreWanted (Some wanted) outs = outs ≡ wanted

-- the answer derives the goal with outputs that are wanted, and its order is the least among all
-- that do
pub record IsFirst (modes : Modes) (rules : List Rule) (hyps : Hypotheses) (goal : Goal)
    (wanted : Option (List Tree)) (answer : Answer) : Type 0 where
  pub derives : DerivesGoal modes rules hyps goal answer
  pub is_wanted : AreWanted wanted answer.1
  pub least : (other : Answer) → DerivesGoal modes rules hyps goal other →
      AreWanted wanted other.1 → IsAtMost (order_of answer.0) (order_of other.0)

-- no derivation of the goal with outputs that are wanted exists
abbrev pub IsUnderivable : Modes → List Rule → Hypotheses → Goal → Option (List Tree) → Type 0
IsUnderivable modes rules hyps goal wanted = (answer : Answer) →
    DerivesGoal modes rules hyps goal answer → AreWanted wanted answer.1 → ⊥
