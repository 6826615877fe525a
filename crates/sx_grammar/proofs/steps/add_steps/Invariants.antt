use Rattle.sx_grammar.proofs.Stepping.{FiledBefore}
use Rattle.sx_grammar.proofs.steps.add_steps.Given as goal

abbrev pub invariant-loop-symbol : goal.invariant-loop-symbol
invariant-loop-symbol l = FiledBefore l.marks l.count l.production.sort l.symbol-items l.fn.steps.items l.steps.items l.symbol-index
