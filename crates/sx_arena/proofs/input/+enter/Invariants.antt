use Rattle.sx_arena.specs.Arena.{trees}
use Rattle.sx_arena.proofs.Entering.{Entering}
use Rattle.sx_arena.proofs.input.+enter.Given as goal

abbrev pub invariant-loop-kid : goal.invariant-loop-kid
invariant-loop-kid l = Entering (trees l.initial.arena) l.arena l.parts.items l.kid-items l.kid-index
