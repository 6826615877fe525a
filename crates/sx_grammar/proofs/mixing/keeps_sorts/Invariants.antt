use Rattle.std.proofs.Common.{take}
use Rattle.sx_grammar.specs.Parts.{parts}
use Rattle.sx_grammar.specs.Made.{HasNone, MixesSorts}
use Rattle.sx_grammar.proofs.mixing.keeps_sorts.Given as goal

abbrev pub invariant-loop-i : goal.invariant-loop-i
invariant-loop-i l = HasNone (MixesSorts (parts l.from)) (take l.i (parts l.from).productions)
