use Rattle.std.proofs.Common.{◌≡◌, map, take}
use Rattle.sx_grammar.specs.Numbered.{bare}
use Rattle.sx_grammar.proofs.numbered_behind.copy_numbered.Given as goal

abbrev pub invariant-loop-i : goal.invariant-loop-i
invariant-loop-i l = map bare l.copies.items ≡ map bare (take l.i l.productions)
