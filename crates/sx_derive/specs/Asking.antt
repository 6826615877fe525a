-- What a premise's goal has as its first answer.
use Rattle.std.specs.Prelude.{◌≡◌, ℕ, ◌≤◌, List, map, length, reverse, Option, Some, None}
use Rattle.sx_rules.specs.Rules.{Judgement, Rule, judgement_instance}
use Rattle.sx_rules.specs.Modes.{Modes, outputs_of, Goal, goal_of}
use Rattle.sx_arena.specs.Matching.{match_all, filled}
use Rattle.sx_derive.specs.Failing.{FailsAlong}
use Rattle.sx_derive.specs.Walk.{Event, Answer, goal_events}
use Rattle.sx_derive.specs.declared.ask.Asked.{Asked}
use Rattle.sx_derive.specs.declared.ask.Asked.TheVariants.{Unanswered, Differs, Matched}
use Rattle.sx_arena.specs.declared.pairs.Pair.{Pair}
use Rattle.sx_derive.specs.declared.store.Store.{Store}
use Rattle.sx_arena.specs.Arena.{tree_at, AreBelow}
use Rattle.sx_arena.specs.Binds.{env_at}
use Rattle.sx_derive.specs.Handing.{hyps_in}
use Rattle.sx_derive.specs.Store.{store_trees, store_envs}

-- the goal of a premise under the bindings of a chain
abbrev pub asked_goal : Modes → Store → ℕ → Judgement → Goal
asked_goal modes s env j = goal_of modes (judgement_instance (filled (env_at (store_envs s) env)) j)

-- its events
abbrev pub asked_events : Modes → List Rule → List Pair → List Judgement → Store → ℕ → ℕ →
    Judgement → List (Event Answer)
asked_events modes rules pairs js s env levels j =
    goal_events modes rules (hyps_in pairs s js) levels (asked_goal modes s env j)

-- where it leads without an answer
abbrev pub AskedFails : Modes → List Rule → List Pair → List Judgement → Store → ℕ → ℕ →
    Judgement → List ℕ → Type 0
AskedFails modes rules pairs js s env levels j =
    FailsAlong modes rules (hyps_in pairs s js) levels (asked_goal modes s env j)

-- the numbers are those of the goal's terms
pub record AreTermsOf (s : Store) (goal : Goal) (terms : List ℕ) : Type 0 where
  pub below : AreBelow (length (store_trees s)) terms
  pub are : map (tree_at (store_trees s)) terms ≡ goal.terms

-- there is no answer, and the further notes say where the goal fails, or the first answer's outputs
-- do not match, or they do
abbrev pub IsAnswered : Modes → Store → Store → ℕ → Judgement → Option Answer →
    (List ℕ → Type 0) → Asked → Type 0
IsAnswered modes old new env j first Fails (Unanswered terms further) =
    AreTermsOf new (asked_goal modes old env j) terms.items × (first ≡ None)
    × Fails (reverse further.items)
IsAnswered modes old new env j first Fails (Differs terms got) =
    AreTermsOf new (asked_goal modes old env j) terms.items
    × AreBelow (length (store_trees new)) got.items
    × ((a : Answer) × (first ≡ Some a) × (a.1 ≡ map (tree_at (store_trees new)) got.items)
    × (match_all (outputs_of modes j) a.1 (env_at (store_envs old) env) ≡ None))
IsAnswered modes old new env j first Fails (Matched next) =
    (next ≤ length new.binds.cells.items)
    × ((a : Answer) × (first ≡ Some a)
    × (match_all (outputs_of modes j) a.1 (env_at (store_envs old) env)
    ≡ Some (env_at (store_envs new) next)))
