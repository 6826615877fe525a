use Rattle.std.proofs.Common.{◌≡◌, map, drop}
use Rattle.sx_arena.specs.Arena.{trees, tree_at}
use Rattle.sx_replay.specs.Limits.{note}
use Rattle.sx_replay.proofs.noted.noted_after.Given as goal

abbrev pub invariant-loop-term : goal.invariant-loop-term
invariant-loop-term l = note l.last (map (tree_at (trees l.arena)) (drop l.term-index l.terms)) ≡ note l.initial.last (map (tree_at (trees l.arena)) l.terms)
