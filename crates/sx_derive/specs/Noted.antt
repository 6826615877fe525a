-- The first answer of a goal by its numbers, or where the goal leads without one.
use Rattle.std.specs.Prelude.{◌≡◌, ℕ, suc, List, reverse, Option, None}
use Rattle.sx_term.specs.Tree.{Tree}
use Rattle.sx_rules.specs.Rules.{Judgement, Rule}
use Rattle.sx_rules.specs.Modes.{Modes}
use Rattle.sx_arena.specs.declared.pairs.Pair.{Pair}
use Rattle.sx_derive.specs.Candidates.{goal_in}
use Rattle.sx_derive.specs.Failing.{FailsAlong}
use Rattle.sx_derive.specs.Handing.{hyps_in}
use Rattle.sx_derive.specs.Quiet.{first_given, IsGivenIn}
use Rattle.sx_derive.specs.Store.{StoreGrows, store_trees}
use Rattle.sx_derive.specs.Walk.{Answer}
use Rattle.sx_derive.specs.Walked.{events_in}
use Rattle.sx_derive.specs.declared.first.First.{First as FirstOf}
use Rattle.sx_derive.specs.declared.first.First.TheVariants.{Answer as FirstAnswer, Nothing}
use Rattle.sx_derive.specs.declared.numbered_goal.NumberedGoal.{NumberedGoal}
use Rattle.sx_derive.specs.declared.store.Store.{Store}

-- the outputs are those of the answer that is given first, or none is given, and the notes, the
-- last of which is of the goal itself, say where it fails
abbrev pub IsNotedIn : List Tree → Option Answer → (List ℕ → Type 0) → FirstOf → Type 0
IsNotedIn ts first Fails (FirstAnswer outs) = IsGivenIn ts first outs
IsNotedIn ts first Fails (Nothing notes) = (first ≡ None) × Fails (reverse notes.items)

-- the store goes on, and has the outputs of what is given first, or it is noted where the goal
-- fails
abbrev pub IsFirstNoted : Modes → List Rule → List Pair → List Judgement → Store → Store →
    NumberedGoal → FirstOf → Type 0
IsFirstNoted modes rules pairs js old new goal first =
    StoreGrows modes rules old new
    × IsNotedIn (store_trees new)
    (first_given (events_in modes rules pairs js old goal.levels goal.form goal.terms.items))
    (FailsAlong modes rules (hyps_in pairs old js) (suc goal.levels)
    (goal_in old goal.form goal.terms.items))
    first
