use Rattle.std.proofs.Common.{arith, refl}
use Rattle.sx_arena.specs.Arena.{trees}
use Rattle.sx_arena.proofs.Arenas.{below_zero}
use Rattle.sx_arena.proofs.Exporting.{kids_less, kids_within, depth_in, exported_more, exported_all, exported_node}
use Rattle.sx_arena.proofs.output.+exporting.Goals as goal

pub export-export_all-requires : goal.export-export_all-requires
export-export_all-requires t c =
    let l = kids_less _ _ _ _ _ _ c.cell.ensures c.in-Node.is c.as_slice.ensures in
    let d = c.decreases in
    (omega arith, (c.requires.arena, kids_within _ _ _ _ _ _ c.cell.ensures c.in-Node.is c.as_slice.ensures))

pub export-returns-in_ok-parts-in-Node : goal.export-returns-in_ok-parts-in-Node
export-returns-in_ok-parts-in-Node t c = exported_node _ _ _ _ _ _ c.in_ok-parts-in-Node.parts c.cell.ensures c.in-Node.is c.as_slice.ensures c.in_ok-parts-in-Node.ensures

pub fill-export-requires : goal.fill-export-requires
fill-export-requires t c =
    let l = depth_in (trees c.args.arena.now) c.args.indices.now c.loop-index.index-index _ c.loop-index-test.true refl in
    let d = c.decreases in
    (omega arith, (c.requires.arena, below_zero _ _ c.requires.within c.loop-index.index-index c.loop-index-test.true))

pub fill-loop-index-preserved : goal.fill-loop-index-preserved
fill-loop-index-preserved t c = exported_more _ _ _ _ _ _ c.loop-index-test.true c.loop-index.invariant c.in_ok-export.ensures c.in_ok-push.ensures.items

pub fill-returns : goal.fill-returns
fill-returns t c = exported_all _ _ _ _ c.loop-index-test.false c.loop-index.invariant
