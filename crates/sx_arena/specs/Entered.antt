-- Hypotheses that were put into an arena.
use Rattle.std.specs.Prelude.{◌≡◌, ◌<◌, ◌≤◌, List, [], ◌∷◌, length}
use Rattle.sx_term.specs.Tree.{Tree, depth_of}
use Rattle.sx_rules.specs.Rules.{Judgement}
use Rattle.sx_rules.specs.Modes.{Modes}
use Rattle.sx_arena.specs.declared.arena.Arena.{Arena}
use Rattle.sx_arena.specs.declared.fact.Fact.{Fact}
use Rattle.sx_arena.specs.declared.pairs.Pair.{Pair}
use Rattle.sx_arena.specs.Arena.{trees, IsArena, Extends}
use Rattle.sx_arena.specs.Facts.{IsFact, AreFacts}
use Rattle.sx_arena.specs.Pairs.{entered_pair, pairs_of, ArePairs}
use Rattle.sx_term.specs.Limits.{most_depth}

-- the arena goes on from the other, and has the judgements by their numbers
pub record AreFactsIn (modes : Modes) (old new : Arena) (js : List Judgement)
    (facts : List Fact) : Type 0 where
  pub arena : IsArena new
  pub extends : Extends (trees old) (trees new)
  pub are : AreFacts modes (trees new) js facts

-- the arena goes on from the other, and has the pairs by their numbers
pub record ArePairsIn (old new : Arena) (ps : List (Tree × Tree)) (pairs : List Pair) : Type 0 where
  pub arena : IsArena new
  pub extends : Extends (trees old) (trees new)
  pub within : ArePairs (length (trees new)) pairs
  pub are : pairs_of (trees new) pairs ≡ ps

-- the arena goes on from the other, and has the judgement by its numbers
pub record IsFactIn (modes : Modes) (old new : Arena) (j : Judgement) (fact : Fact) : Type 0 where
  pub arena : IsArena new
  pub extends : Extends (trees old) (trees new)
  pub is : IsFact modes (trees new) j fact

-- the terms of the pairs are no deeper than 1,000
abbrev pub ArePairsShallow : List (Tree × Tree) → Type 0
ArePairsShallow [] = Unit {0}
ArePairsShallow (p ∷ ps) =
    ((depth_of p.0 ≤ most_depth) × (depth_of p.1 ≤ most_depth)) × ArePairsShallow ps

-- the arena goes on from the other, and has the two terms at the numbers
pub record IsPairIn (old new : Arena) (p : Tree × Tree) (pair : Pair) : Type 0 where
  pub arena : IsArena new
  pub extends : Extends (trees old) (trees new)
  pub first : pair.first < length (trees new)
  pub second : pair.second < length (trees new)
  pub is : entered_pair (trees new) pair ≡ p
