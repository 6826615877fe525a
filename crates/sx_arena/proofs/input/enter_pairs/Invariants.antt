use Rattle.std.proofs.Common.{map, take}
use Rattle.sx_rules.specs.Views.{pair}
use Rattle.sx_arena.specs.Entered.{ArePairsIn}
use Rattle.sx_arena.proofs.input.enter_pairs.Given as goal

abbrev pub invariant-loop-i : goal.invariant-loop-i
invariant-loop-i l = ArePairsIn l.initial.arena l.arena (map pair (take l.i l.apart)) l.pairs.items
