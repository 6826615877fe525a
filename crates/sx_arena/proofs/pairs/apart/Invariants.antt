use Rattle.sx_arena.specs.Arena.{trees, tree_at}
use Rattle.sx_arena.proofs.Parted.{Parting}
use Rattle.sx_arena.proofs.pairs.apart.Given as goal

abbrev pub invariant-loop-pair : goal.invariant-loop-pair
invariant-loop-pair l = Parting (trees l.arena) l.pairs l.pair-index (tree_at (trees l.arena) l.first) (tree_at (trees l.arena) l.second)
