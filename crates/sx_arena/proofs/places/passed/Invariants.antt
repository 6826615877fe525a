use Rattle.std.proofs.Common.{◌≡◌, map, drop}
use Rattle.sx_arena.specs.Limits.{limit_passed}
use Rattle.sx_arena.specs.Arena.{trees, tree_at}
use Rattle.sx_arena.proofs.places.passed.Given as goal

abbrev pub invariant-loop-term : goal.invariant-loop-term
invariant-loop-term l = limit_passed (map (tree_at (trees l.arena)) (drop l.term-index l.terms)) ≡ limit_passed (map (tree_at (trees l.arena)) l.terms)
