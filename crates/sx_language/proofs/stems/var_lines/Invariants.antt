use Rattle.std.proofs.Common.{take}
use Rattle.sx_language.specs.States.{AreStems}
use Rattle.sx_language.proofs.stems.var_lines.Given as goal

abbrev pub invariant-loop-i : goal.invariant-loop-i
invariant-loop-i l = AreStems l.grammar.parts l.lines.items (take l.i l.metas.stems.items)
