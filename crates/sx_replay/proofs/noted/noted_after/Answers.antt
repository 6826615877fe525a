use Rattle.std.proofs.Common.{sym, ◌∙◌}
use Rattle.sx_arena.proofs.Arenas.{below_zero, depth_read, size_read}
use Rattle.sx_replay.proofs.Noting.{noted_step, noted_end}
use Rattle.sx_replay.proofs.noted.noted_after.Goals as goal

pub cell-cell-requires-clause-within : goal.cell-cell-requires-clause-within
cell-cell-requires-clause-within c = below_zero _ _ c.requires.terms c.loop-term.term-index c.loop-term-test.true

pub loop-term-preserved : goal.loop-term-preserved
loop-term-preserved c =
    noted_step _ c.args.terms.now c.loop-term.term-index _ _ c.loop-term.last (record { deep = c.first_over.result; big = c.first_over-in-loop-term.result }) c.loop-term-test.true
    (depth_read _ _ _ c.cell-cell.ensures) (size_read _ _ _ c.cell-cell.ensures) c.first_over.ensures c.first_over-in-loop-term.ensures ∙ c.loop-term.invariant

pub returns : goal.returns
returns c = sym (noted_end _ c.args.terms.now c.loop-term.term-index c.loop-term.last c.loop-term-test.false) ∙ c.loop-term.invariant
