use Rattle.std.proofs.Common.{take}
use Rattle.sx_grammar.specs.Parts.{parts}
use Rattle.sx_grammar.specs.Made.{HasNone, LacksBrackets}
use Rattle.sx_grammar.proofs.levels.has_brackets_at.Given as goal

abbrev pub invariant-loop-i : goal.invariant-loop-i
invariant-loop-i l = HasNone (LacksBrackets (parts l.from)) (take l.i l.from.sorts.items)
