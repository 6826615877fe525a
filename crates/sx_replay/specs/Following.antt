-- Where reading a list stops.
use Rattle.std.specs.Prelude.{◌≡◌, ℕ, ◌-◌, ◌<◌, ◌≤◌, List, [], ◌⊎◌, map, take, length, Some, None}
use Rattle.std.specs.Prelude.{Result, Ok, Err, Vec}
use Rattle.std.specs.declared.alloc.Global.{Global}
use Rattle.sx_term.specs.Tree.{Tree}
use Rattle.sx_rules.specs.Rules.{Rule, Hypotheses}
use Rattle.sx_rules.specs.Modes.{Modes, Goal}
use Rattle.sx_rules.specs.Orders.{Entry}
use Rattle.sx_arena.specs.Arena.{tree_at}
use Rattle.sx_replay.specs.declared.noted.Noted.{Noted}
use Rattle.sx_replay.specs.declared.reader.Reader.{Reader}
use Rattle.sx_replay.specs.declared.replay_error.ReplayError.{ReplayError}
use Rattle.sx_replay.specs.declared.replay_error.ReplayError.TheVariants.{Memory, WrongAt}
use Rattle.sx_replay.specs.declared.replay_error.ReplayError.TheVariants.{EndsEarly, LongList}
use Rattle.sx_replay.specs.declared.replay_error.ReplayError.TheVariants.{TooDeep, TooBig, DeepList}
use Rattle.sx_replay.specs.Limits.{nothing_noted}
use Rattle.sx_replay.specs.Machine.{ReplayFrame, asks, ReplayReading, wrong, open_at, ended, read}
use Rattle.sx_replay.specs.Reader.{reader_trees}
use Rattle.sx_rules.specs.Limits.{most_levels}

-- what is found of an entry at a goal for which that many rules wait, and of the terms up to the
-- next entry
abbrev pub IsEntryChecked : ℕ → Noted → ℕ → Result (Unit {0}) ReplayError → Type 0
IsEntryChecked level n number (Ok x) = (level < most_levels) × (n ≡ nothing_noted)
IsEntryChecked level n number (Err (DeepList k)) = (most_levels ≤ level) × (k ≡ number)
IsEntryChecked level n number (Err (TooDeep d)) = (level < most_levels) × (n.deep ≡ Some d)
IsEntryChecked level n number (Err (TooBig b)) =
    (level < most_levels) × (n.deep ≡ None) × (n.big ≡ Some b)
IsEntryChecked level n number (Err Memory) = ⊥
IsEntryChecked level n number (Err (WrongAt k)) = ⊥
IsEntryChecked level n number (Err EndsEarly) = ⊥
IsEntryChecked level n number (Err (LongList k)) = ⊥

module _ (modes : Modes) (rules : List Rule) (hyps : Hypotheses) (goal : Goal) where
  -- where reading the list from the first goal on stands
  abbrev pub reading : List Entry → ReplayReading
  reading list = read modes rules hyps list 0 (asks goal [] nothing_noted)

  -- at a goal, within the limits
  abbrev pub StandsOpen : List Entry → Type 0
  StandsOpen list = (g : Goal) × (fs : List ReplayFrame) × (d : ℕ) ×
      (reading list ≡ open_at g fs nothing_noted d) × (d ≤ most_levels)

  -- at the end of a derivation, within the limits
  abbrev pub StandsWhole : List Entry → List Tree → Type 0
  StandsWhole list outs =
      (d : ℕ) × (reading list ≡ ended outs nothing_noted d []) × (d ≤ most_levels)

  -- at a goal or at the end of a derivation, with this noted and this depth
  abbrev pub StandsAt : List Entry → Noted → ℕ → Type 0
  StandsAt list n d =
      ((g : Goal) × (fs : List ReplayFrame) × (reading list ≡ open_at g fs n d)) ⊎
      ((outs : List Tree) × (reading list ≡ ended outs n d []))

  -- the entries before number k stand at a goal
  abbrev pub StandsBefore : List Entry → ℕ → Type 0
  StandsBefore list k = (1 ≤ k) × (k ≤ length list) × StandsOpen (take (k - 1) list)

  abbrev pub IsRefused : List Entry → ReplayError → Type 0
  IsRefused list Memory = Unit {0}
  IsRefused list (WrongAt k) = StandsBefore list k × (reading (take k list) ≡ wrong)
  IsRefused list EndsEarly = StandsOpen list
  IsRefused list (LongList k) = (1 ≤ k) × (k ≤ length list) ×
      ((outs : List Tree) × StandsWhole (take (k - 1) list) outs)
  IsRefused list (DeepList k) = (n : Noted) × (d : ℕ) × StandsBefore list k ×
      StandsAt (take k list) n d × (most_levels < d)
  IsRefused list (TooDeep m) = (k : ℕ) × (n : Noted) × (d : ℕ) × StandsBefore list k ×
      StandsAt (take k list) n d × (d ≤ most_levels) × (n.deep ≡ Some m)
  IsRefused list (TooBig m) =
      (k : ℕ) × (n : Noted) × (d : ℕ) × StandsBefore list k × StandsAt (take k list) n d ×
      (d ≤ most_levels) × (n.deep ≡ None) × (n.big ≡ Some m)

  abbrev pub IsFollowed : List Entry → Reader → Result (Vec ℕ Global) ReplayError → Type 0
  IsFollowed list r (Ok outs) = StandsWhole list (map (tree_at (reader_trees r)) outs.items)
  IsFollowed list r (Err e) = IsRefused list e
