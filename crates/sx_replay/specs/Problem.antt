-- The hypotheses and the goal of a list, by their numbers.
use Rattle.std.specs.Prelude.{◌≡◌, List, [], map, length}
use Rattle.sx_term.specs.Tree.{Tree}
use Rattle.sx_rules.specs.Rules.{Rule, Hypotheses}
use Rattle.sx_rules.specs.Modes.{Modes}
use Rattle.sx_arena.specs.Arena.{tree_at, AreBelow}
use Rattle.sx_arena.specs.Facts.{AreFacts}
use Rattle.sx_arena.specs.Pairs.{pairs_of, ArePairs}
use Rattle.sx_replay.specs.declared.replaying.Problem.{Problem}
use Rattle.sx_replay.specs.Limits.{nothing_noted}
use Rattle.sx_replay.specs.Reader.{reader_trees, base_trees, IsReplayReader}

-- the problem has the hypotheses and the terms of the goal by their numbers, and nothing is read
pub record IsReplayProblem (modes : Modes) (rules : List Rule) (hyps : Hypotheses)
    (terms : List Tree)
    (p : Problem) : Type 0 where
  pub reader : IsReplayReader rules p.reader
  pub none_waits : p.reader.waiting.items ≡ []
  pub noted : p.reader.noted ≡ nothing_noted
  pub facts : AreFacts modes (base_trees p.reader) hyps.judgements p.facts.items
  pub pairs : ArePairs (length (base_trees p.reader)) p.pairs.items
  pub pairs_are : pairs_of (reader_trees p.reader) p.pairs.items ≡ hyps.pairs
  pub terms_below : AreBelow (length (reader_trees p.reader)) p.terms.items
  pub terms_are : map (tree_at (reader_trees p.reader)) p.terms.items ≡ terms
