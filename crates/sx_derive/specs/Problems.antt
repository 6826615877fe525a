-- A problem in a store, and what a search answers.
use Rattle.std.specs.Prelude.{◌≡◌, ℕ, ◌+◌, ◌≤◌, List, map, length, reverse}
use Rattle.std.specs.Prelude.{Option, Vec, Result, Ok, Err}
use Rattle.std.specs.declared.alloc.Global.{Global}
use Rattle.sx_term.specs.Tree.{Tree}
use Rattle.sx_term.specs.declared.no_memory.NoMemory.{NoMemory}
use Rattle.sx_rules.specs.Rules.{Rule, Hypotheses}
use Rattle.sx_rules.specs.Limits.{most_levels}
use Rattle.sx_rules.specs.Modes.{Modes, Goal}
use Rattle.sx_derive.specs.Walk.{events}
use Rattle.sx_derive.specs.Search.{walk, tries_of}
use Rattle.sx_arena.specs.declared.arena.Arena.{Arena}
use Rattle.sx_derive.specs.declared.entered.Entered.{Entered}
use Rattle.sx_derive.specs.declared.store.Store.{Store}
use Rattle.sx_derive.specs.declared.problem.Problem.{Problem}
use Rattle.sx_derive.specs.declared.problem.Searched.{Searched}
use Rattle.sx_arena.specs.Arena.{trees, tree_at, IsArena, AreBelow, Extends}
use Rattle.sx_derive.specs.Candidates.{AreFacts}
use Rattle.sx_derive.specs.Failing.{FailsAlong}
use Rattle.sx_arena.specs.Pairs.{pairs_of, ArePairs}
use Rattle.sx_derive.specs.Store.{IsStore, store_trees}
use Rattle.sx_derive.specs.Tasks.{wanted_at, WantedBelow, IsEnding}

-- the arena goes on from the other, and has what is wanted by its numbers
pub record IsWantedIn (old new : Arena) (terms : Option (List Tree))
    (wanted : Option (Vec ℕ Global)) : Type 0 where
  pub arena : IsArena new
  pub extends : Extends (trees old) (trees new)
  pub within : WantedBelow (length (trees new)) wanted
  pub are : wanted_at (trees new) wanted ≡ terms

-- the problem has the hypotheses, the terms of the goal and what is wanted by their numbers
pub record IsProblem (modes : Modes) (rules : List Rule) (hyps : Hypotheses) (terms : List Tree)
    (wanted : Option (List Tree)) (p : Problem) : Type 0 where
  pub store : IsStore modes rules p.store
  pub facts : AreFacts modes (store_trees p.store) hyps.judgements p.facts.items
  pub pairs : ArePairs (length (store_trees p.store)) p.pairs.items
  pub pairs_are : pairs_of (store_trees p.store) p.pairs.items ≡ hyps.pairs
  pub terms_below : AreBelow (length (store_trees p.store)) p.terms.items
  pub terms_are : map (tree_at (store_trees p.store)) p.terms.items ≡ terms
  pub wanted_below : WantedBelow (length (store_trees p.store)) p.wanted
  pub wanted_are : wanted_at (store_trees p.store) p.wanted ≡ wanted

-- the problem with these parts in a store
abbrev pub problem_of : Store → Entered → Problem
problem_of s e =
    record { store = s; facts = e.facts; pairs = e.pairs; terms = e.terms; wanted = e.wanted }

-- the ending is how the walk of the goal ends, after all of its tries, and where the goal has no
-- answer the notes say where it fails; without memory some of its tries were made
abbrev pub IsSearched : Modes → List Rule → Hypotheses → Goal → Option (List Tree) → ℕ → ℕ → ℕ →
    Result Searched NoMemory → Type 0
IsSearched modes rules hyps goal wanted budget first last (Ok s) =
    IsStore modes rules s.store
    × IsEnding s.store s.ending (walk wanted budget (events modes rules hyps goal 1))
    × (last ≡ first + tries_of wanted budget (events modes rules hyps goal 1))
    × FailsAlong modes rules hyps most_levels goal (reverse s.notes.items)
IsSearched modes rules hyps goal wanted budget first last (Err e) =
    (first ≤ last) × (last ≤ first + tries_of wanted budget (events modes rules hyps goal 1))
