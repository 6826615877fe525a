use Rattle.std.proofs.Common.{◌≡◌, drop}
use Rattle.sx_arena.specs.Hashed.{mixed}
use Rattle.sx_arena.proofs.shape.node_hash.Given as goal

abbrev pub invariant-loop-kid : goal.invariant-loop-kid
invariant-loop-kid l = mixed l.sum (drop l.kid-index l.kids) ≡ mixed l.label l.kids
