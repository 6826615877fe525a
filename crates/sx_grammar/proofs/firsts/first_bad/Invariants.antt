use Rattle.std.proofs.Common.{take}
use Rattle.sx_grammar.specs.Parts.{texts}
use Rattle.sx_grammar.specs.Made.{HasNone, IsBadLiteral}
use Rattle.sx_grammar.proofs.firsts.first_bad.Given as goal

abbrev pub invariant-loop-text : goal.invariant-loop-text
invariant-loop-text l = HasNone IsBadLiteral (take l.text-index (texts l.literals))
