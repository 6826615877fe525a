use Rattle.std.proofs.Common.{arith, refl}
use Rattle.sx_arena.specs.Arena.{trees, tree_at}
use Rattle.sx_expand.proofs.KidsPut.{cell-measure, put-set, past-numbers, past-measures}
use Rattle.sx_expand.proofs.kid_subjects.put_at.Goals.{else-place-len-via-then-place-len+else-place-len-2, else-place-len-via-else-place-len}
use Rattle.sx_expand.proofs.kid_subjects.put_at.Goals as goal

pub returns-then-place-len-2 : goal.returns-then-place-len-2
returns-then-place-len-2 c = λ old h.
    let ts = trees c.args.arena.now in
    put-set ts old c.args.puts.now.numbers.items c.args.puts.now.measures.items c.args.variable c.args.term _ h c.requires.within c.requires.shallow
    (cell-measure ts c.args.term c.cell-cell.result.now.depth c.cell-cell.result.now c.requires.shallow c.cell-cell.ensures (λ l. refl))

pub returns-else-place-len : goal.returns-else-place-len
returns-else-place-len c = λ old h.
    let ts = trees c.args.arena.now in
    elim c.else-place-len.branch [
      | else-place-len-via-then-place-len+else-place-len-2 w ↦ past-measures ts old c.args.puts.now.numbers.items c.args.puts.now.measures.items c.args.variable (tree_at ts c.args.term) h (let e = w.len-then-place-len.ensures in let f = w.if-place-len-2.false in omega (arith, e, f))
      | else-place-len-via-else-place-len w ↦ past-numbers ts old c.args.puts.now.numbers.items c.args.puts.now.measures.items c.args.variable (tree_at ts c.args.term) h (let e = c.len.ensures in let f = w.if-place-len.false in omega (arith, e, f))
    ]
