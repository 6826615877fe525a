-- What is proved of fronts and of answers.
use Rattle.std.specs.Prelude.{None, ◌≤◌, map, Vec, Result, Ok, Err, ◌≡◌, ◌≢◌, ℕ, List, ◌∷◌, ◌++◌}
use Rattle.std.specs.declared.alloc.Global.{Global}
use Rattle.sx_term.specs.Tree.{Tree}
use Rattle.sx_term.specs.Term.{tree}
use Rattle.sx_term.specs.declared.term.Term.{Term}
use Rattle.sx_rules.specs.Rules.{Rule, Hypotheses}
use Rattle.sx_rules.specs.Modes.{Modes, Goal, AllModed}
use Rattle.sx_rules.specs.Derivations.{Proof, height_of}
use Rattle.sx_rules.specs.First.{DerivesGoal}
use Rattle.sx_rules.specs.Orders.{Entry, order_of}
use Rattle.sx_replay.specs.declared.replay_error.ReplayError.{ReplayError}
use Rattle.sx_replay.specs.declared.replay_error.ReplayError.TheVariants.{Memory}
use Rattle.sx_replay.specs.Limits.{first_deep, first_big}
use Rattle.sx_replay.specs.Fronts.{DerivationStage, open_one, made_in, IsFront}
use Rattle.sx_replay.specs.Replay.{IsWithin, IsReplayAnswer, IsReplayed}
use Rattle.sx_rules.specs.Limits.{most_levels}

-- a list is that of one stage of one derivation at most: its outputs, the first terms that pass a
-- limit and its depth are determined
abbrev pub FrontsAreAlone : Type 0
FrontsAreAlone =
    (modes : Modes) (rules : List Rule) (hyps : Hypotheses) → AllModed modes rules →
    (goal : Goal) (list : List Entry) (one other : DerivationStage) (terms others : List Tree)
    (depth level : ℕ) →
    IsFront modes rules hyps goal one list terms depth →
    IsFront modes rules hyps goal other list others level →
    (one ≡ other) × (first_deep terms ≡ first_deep others) × (first_big terms ≡ first_big others) ×
    (depth ≡ level)

-- where a list is within the limits, each beginning of it is that of a derivation within the limits
-- that has goals left; so no list has two answers
abbrev pub BeginningsAreWithin : Type 0
BeginningsAreWithin =
    (modes : Modes) (rules : List Rule) (hyps : Hypotheses) → AllModed modes rules →
    (goal : Goal) (stage : DerivationStage) (front : List Entry) (next : Entry)
    (rest : List Entry) →
    IsWithin modes rules hyps goal stage (front ++ (next ∷ rest)) →
    IsWithin modes rules hyps goal open_one front

-- the answer has these outputs, unless memory was wanting
abbrev pub HasOutputs : List Tree → Result (Vec Term Global) ReplayError → Type 0
HasOutputs outs (Ok made) = map tree made.items ≡ outs
HasOutputs outs (Err e) = e ≡ Memory

-- the list of a derivation within the limits is answered with the outputs of that derivation
abbrev pub DerivationsAreReplayed : Type 0
DerivationsAreReplayed =
    (modes : Modes) (rules : List Rule) (hyps : Hypotheses) → AllModed modes rules →
    (goal : Goal) (p : Proof) (outs : List Tree) → DerivesGoal modes rules hyps goal (p, outs) →
    first_deep (made_in modes rules p) ≡ None → first_big (made_in modes rules p) ≡ None →
    height_of p ≤ most_levels →
    (answer : Result (Vec Term Global) ReplayError) →
    IsReplayed modes rules hyps goal (order_of p) answer → HasOutputs outs answer

-- a list has one answer, out of memory aside
abbrev pub OneAnswerIsDue : Type 0
OneAnswerIsDue =
    (modes : Modes) (rules : List Rule) (hyps : Hypotheses) → AllModed modes rules →
    (goal : Goal) (list : List Entry) (a b : Result (List Tree) ReplayError) →
    IsReplayAnswer modes rules hyps goal list a → IsReplayAnswer modes rules hyps goal list b →
    (a ≢ Err Memory) → (b ≢ Err Memory) → a ≡ b
