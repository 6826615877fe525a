use Rattle.sx_arena.proofs.Arenas.{below_zero, depth_read, size_read}
use Rattle.sx_arena.proofs.Placed.{limit_deep, limit_big, limit_none, limit_end}
use Rattle.sx_arena.proofs.places.passed.Goals as goal

pub cell-cell-requires-clause-within : goal.cell-cell-requires-clause-within
cell-cell-requires-clause-within c = below_zero _ _ c.requires.terms c.loop-term.term-index c.loop-term-test.true

pub returns-then-cell : goal.returns-then-cell
returns-then-cell c =
    limit_deep _ _ _ _ c.loop-term-test.true (depth_read _ _ _ c.cell-cell.ensures) c.if-cell.true c.loop-term.invariant

pub returns-then-cell-gt-MOST_SIZE : goal.returns-then-cell-gt-MOST_SIZE
returns-then-cell-gt-MOST_SIZE c =
    limit_big _ _ _ _ _ c.loop-term-test.true (depth_read _ _ _ c.cell-cell.ensures) c.if-cell.false (size_read _ _ _ c.cell-cell.ensures) c.if-cell-gt-MOST_SIZE.true c.loop-term.invariant

pub loop-term-preserved : goal.loop-term-preserved
loop-term-preserved c =
    limit_none _ _ _ _ _ c.loop-term-test.true (depth_read _ _ _ c.cell-cell.ensures) c.if-cell.false (size_read _ _ _ c.cell-cell.ensures) c.if-cell-gt-MOST_SIZE.false c.loop-term.invariant

pub returns : goal.returns
returns c = limit_end _ _ c.loop-term.term-index c.loop-term-test.false c.loop-term.invariant
