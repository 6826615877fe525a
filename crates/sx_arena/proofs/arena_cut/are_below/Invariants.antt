use Rattle.std.specs.Prelude.{take}
use Rattle.sx_arena.specs.Arena.{AreBelow}
use Rattle.sx_arena.proofs.arena_cut.are_below.Given as goal

abbrev pub invariant-loop-number : goal.invariant-loop-number
invariant-loop-number l = AreBelow l.bound (take l.number-index l.numbers)
