use Rattle.sx_grammar.specs.Parts.{numbered}
use Rattle.sx_grammar.specs.Tables.{literals_of}
use Rattle.sx_notation.proofs.Placing.{Progress}
use Rattle.sx_notation.proofs.walk.put_places.Given as goal

abbrev pub invariant-loop-symbol : goal.invariant-loop-symbol
invariant-loop-symbol l = Progress (literals_of l.grammar.parts) (numbered l.grammar.parts) l.vars l.symbols l.contents l.symbol-index l.next l.fn.into.items l.into.items
