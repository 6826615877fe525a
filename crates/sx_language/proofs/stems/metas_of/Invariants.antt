use Rattle.std.proofs.Common.{take}
use Rattle.sx_language.specs.States.{AreStems}
use Rattle.sx_language.proofs.stems.metas_of.Given as goal

abbrev pub invariant-loop-i : goal.invariant-loop-i
invariant-loop-i l = AreStems l.grammar.parts (take l.i l.vars) l.stems.items
