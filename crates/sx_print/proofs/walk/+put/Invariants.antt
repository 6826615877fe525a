use Rattle.std.proofs.Common.{◌+◌, ◌*◌}
use Rattle.sx_term.specs.Tree.{depth_of, greatest_depth}
use Rattle.sx_term.specs.Term.{tree}
use Rattle.sx_term.proofs.Kids.{trees}
use Rattle.sx_print.proofs.Walking.{Progress}
use Rattle.sx_print.proofs.walk.+put.Given as goal

abbrev pub decreases-put_term : goal.decreases-put_term
decreases-put_term l = 2 * depth_of (tree l.term.now)

abbrev pub decreases-put_symbols : goal.decreases-put_symbols
decreases-put_symbols l = 2 * greatest_depth (trees l.kids.now) + 1

abbrev pub invariant-put_symbols-loop-symbol : goal.invariant-put_symbols-loop-symbol
invariant-put_symbols-loop-symbol l = Progress l.grammar.parts l.vars l.symbols l.kids l.symbol-index l.next l.fn.into.items l.into.items
