use Rattle.std.proofs.Common.{take}
use Rattle.sx_grammar.specs.Parts.{texts}
use Rattle.sx_grammar.specs.Made.{HasNone, IsUnknownSort}
use Rattle.sx_grammar.proofs.firsts.first_unknown.Given as goal

abbrev pub invariant-loop-name : goal.invariant-loop-name
invariant-loop-name l = HasNone (IsUnknownSort l.names) (take l.name-index (texts l.list))
