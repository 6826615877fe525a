use Rattle.std.proofs.Common.{◌+◌, ◌*◌}
use Rattle.sx_term.specs.Tree.{depth_of, greatest_depth}
use Rattle.sx_term.specs.Term.{tree}
use Rattle.sx_term.proofs.Kids.{trees}
use Rattle.sx_unit.proofs.Counted.{Counted}
use Rattle.sx_unit.proofs.counting.+count.Given as goal

abbrev pub decreases-count_at : goal.decreases-count_at
decreases-count_at l = 2 * depth_of (tree l.term.now)

abbrev pub decreases-count_symbols : goal.decreases-count_symbols
decreases-count_symbols l = 2 * greatest_depth (trees l.kids.now) + 1

abbrev pub invariant-count_symbols-loop-symbol : goal.invariant-count_symbols-loop-symbol
invariant-count_symbols-loop-symbol l = Counted l.grammar.parts l.symbols l.kids l.symbol-index
    l.next l.total
