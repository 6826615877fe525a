-- What replaying a list answers.
use Rattle.std.specs.Prelude.{◌≡◌, ℕ, ◌-◌, ◌<◌, ◌≤◌, List, map, take, length, Some, None, Result}
use Rattle.std.specs.Prelude.{Ok, Err, Vec}
use Rattle.std.specs.declared.alloc.Global.{Global}
use Rattle.sx_term.specs.Tree.{Tree}
use Rattle.sx_term.specs.Term.{tree}
use Rattle.sx_term.specs.declared.term.Term.{Term}
use Rattle.sx_rules.specs.Rules.{Rule, Hypotheses}
use Rattle.sx_rules.specs.Modes.{Modes, Goal}
use Rattle.sx_rules.specs.Orders.{Entry}
use Rattle.sx_replay.specs.declared.replay_error.ReplayError.{ReplayError}
use Rattle.sx_replay.specs.declared.replay_error.ReplayError.TheVariants.{Memory, WrongAt}
use Rattle.sx_replay.specs.declared.replay_error.ReplayError.TheVariants.{EndsEarly, LongList}
use Rattle.sx_replay.specs.declared.replay_error.ReplayError.TheVariants.{TooDeep, TooBig, DeepList}
use Rattle.sx_replay.specs.Limits.{first_deep, first_big}
use Rattle.sx_replay.specs.Fronts.{DerivationStage, open_one, whole, IsFront}
use Rattle.sx_rules.specs.Limits.{most_levels}

module _ (modes : Modes) (rules : List Rule) (hyps : Hypotheses) (goal : Goal) where
  -- no term passes a limit, and no entry stands deeper than 3,000
  pub record IsWithin (stage : DerivationStage) (list : List Entry) : Type 0 where
    pub terms : List Tree
    pub depth : ℕ
    pub front : IsFront modes rules hyps goal stage list terms depth
    pub shallow : first_deep terms ≡ None
    pub small : first_big terms ≡ None
    pub level : depth ≤ most_levels

  -- the entries before number k, counted from 1, are those of a derivation within the limits that
  -- has goals left
  pub record IsReached (list : List Entry) (k : ℕ) : Type 0 where
    pub first : 1 ≤ k
    pub last : k ≤ length list
    pub before : IsWithin open_one (take (k - 1) list)

  -- and entry k fits: with it there are these terms and this depth
  pub record IsFitting (list : List Entry) (k : ℕ) (terms : List Tree) (depth : ℕ) : Type 0 where
    pub reached : IsReached list k
    pub stage : DerivationStage
    pub front : IsFront modes rules hyps goal stage (take k list) terms depth

  -- the answer: the outputs of the derivation that has this list, or else what is wrong at the
  -- first entry at which something is
  abbrev pub IsReplayAnswer : List Entry → Result (List Tree) ReplayError → Type 0
  IsReplayAnswer list (Ok outs) = IsWithin (whole outs) list
  IsReplayAnswer list (Err Memory) = Unit {0}
  IsReplayAnswer list (Err (WrongAt k)) =
      IsReached list k × ((stage : DerivationStage) (terms : List Tree) (depth : ℕ) →
      IsFront modes rules hyps goal stage (take k list) terms depth → ⊥)
  IsReplayAnswer list (Err EndsEarly) = IsWithin open_one list
  IsReplayAnswer list (Err (LongList k)) = (1 ≤ k) × (k ≤ length list) ×
      ((outs : List Tree) × IsWithin (whole outs) (take (k - 1) list))
  IsReplayAnswer list (Err (DeepList k)) = (terms : List Tree) × (depth : ℕ) ×
      IsFitting list k terms depth × (most_levels < depth)
  IsReplayAnswer list (Err (TooDeep n)) =
      (k : ℕ) × (terms : List Tree) × (depth : ℕ) ×
      IsFitting list k terms depth × (depth ≤ most_levels) ×
      (first_deep terms ≡ Some n)
  IsReplayAnswer list (Err (TooBig n)) =
      (k : ℕ) × (terms : List Tree) × (depth : ℕ) ×
      IsFitting list k terms depth × (depth ≤ most_levels) ×
      (first_deep terms ≡ None) × (first_big terms ≡ Some n)

  -- what replaying a list answers
  abbrev pub IsReplayed : List Entry → Result (Vec Term Global) ReplayError → Type 0
  IsReplayed list (Ok outs) = IsReplayAnswer list (Ok (map tree outs.items))
  IsReplayed list (Err e) = IsReplayAnswer list (Err e)
