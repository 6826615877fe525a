use Rattle.std.proofs.Common.{take}
use Rattle.sx_term.specs.Untyped.{AreUntypedSorts}
use Rattle.sx_core.proofs.resolved.are_untyped.Given as goal

abbrev pub invariant-loop-i : goal.invariant-loop-i
invariant-loop-i l = AreUntypedSorts (take l.i l.sorts)
