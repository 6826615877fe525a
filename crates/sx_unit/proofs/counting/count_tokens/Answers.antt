use Rattle.std.proofs.Common.{[], arith}
use Rattle.sx_grammar.specs.Grammar.{of_sort}
use Rattle.sx_grammar.specs.Parts.{numbered}
use Rattle.sx_print.proofs.Fitting.{built}
use Rattle.sx_unit.proofs.counting.count_tokens.Goals as goal

pub count_at-requires-clause-built : goal.count_at-requires-clause-built
count_at-requires-clause-built c = built (numbered c.args.grammar.now.parts) [] 0 (omega arith)
    c.requires.fits.1

pub returns : goal.returns
returns c = c.count_at.ensures (of_sort 0)
