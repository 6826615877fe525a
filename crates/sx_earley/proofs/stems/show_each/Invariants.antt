use Rattle.std.proofs.Common.{take}
use Rattle.sx_earley.specs.Shown.{literal_texts}
use Rattle.sx_earley.specs.Tokens.{Stems}
use Rattle.sx_earley.specs.Showing.{IsStems, AllShow}
use Rattle.sx_earley.proofs.stems.show_each.Given as goal

abbrev pub invariant-loop-i : goal.invariant-loop-i
invariant-loop-i l = (stems : Stems) → IsStems stems l.table → AllShow (literal_texts l.grammar) stems (take l.i l.tokens) l.shown.items
