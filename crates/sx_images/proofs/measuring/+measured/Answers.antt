use Rattle.std.proofs.Common.{ℕ, ap, arith, rules, refl}
use Rattle.sx_term.specs.Tree.{depth_of}
use Rattle.sx_plain.specs.Views.{table_of}
use Rattle.sx_arena.specs.Arena.{trees}
use Rattle.sx_arena.proofs.Exporting.{kid_less, kid_within}
use Rattle.sx_images.proofs.Parts.{node_read, kid_fits}
use Rattle.sx_images.proofs.KidMeasures.{Measured, measuring_more, measured_all, measured_node}
use Rattle.sx_images.proofs.measuring.+measured.Goals as goal
use Rattle.sx_images.proofs.measuring.+measured.Goals.{new_measure-After-deref}

-- all the kids are measured, as they are handed on
kids_measured : (t : ℕ) (c : new_measure-After-deref t) → Measured (table_of c.args.table.now) (trees c.args.arena.now) c.in-Node.label c.deref.result.now c.as_slice-kid-items.result.now
kids_measured t c = measured_all (table_of c.args.table.now) (trees c.args.arena.now) _ _ _ _ _ _ _ _ c.loop-kid.kid-index c.cell.ensures c.in-Node.is c.as_slice-kid-items.ensures c.requires.fits c.loop-kid.invariant c.loop-kid-test.false c.deref.ensures.value

pub new_measure-measured-requires : goal.new_measure-measured-requires
new_measure-measured-requires t c =
    let r = c.cell.ensures in
    let l = kid_less _ _ _ _ _ _ c.loop-kid.kid-index _ r c.in-Node.is c.as_slice-kid-items.ensures c.loop-kid-test.true refl in
    let w = kid_within _ _ _ _ _ _ c.loop-kid.kid-index _ r c.in-Node.is c.as_slice-kid-items.ensures c.loop-kid-test.true refl in
    let f = kid_fits (table_of c.args.table.now) _ _ _ _ _ _ c.loop-kid.kid-index _ r c.in-Node.is c.as_slice-kid-items.ensures c.requires.fits c.loop-kid-test.true refl in
    let a = c.requires.arena in
    let k = c.loop-kid.invariant.known in
    let s = c.requires.shallow in
    let d = c.decreases in
    search rules

pub new_measure-loop-kid-preserved : goal.new_measure-loop-kid-preserved
new_measure-loop-kid-preserved t c =
    measuring_more (table_of c.args.table.now) (trees c.args.arena.now) _ _ _ _ _ c.loop-kid.kid-index _ _ c.loop-kid.invariant c.in_ok-measured-in-Node.ensures.known c.in_ok-measured-in-Node.ensures.measure
    c.in_ok-push-in-Node.ensures.items c.loop-kid-test.true refl

pub new_measure-measure-requires-clause-many : goal.new_measure-measure-requires-clause-many
new_measure-measure-requires-clause-many t c = (kids_measured t (goal.at.new_measure-measure-requires-clause-many t c).After-deref).many

pub new_measure-measure-requires-clause-positive : goal.new_measure-measure-requires-clause-positive
new_measure-measure-requires-clause-positive t c = (kids_measured t (goal.at.new_measure-measure-requires-clause-positive t c).After-deref).positive

pub new_measure-measure-requires-clause-shallow : goal.new_measure-measure-requires-clause-shallow
new_measure-measure-requires-clause-shallow t c =
    let m = kids_measured t (goal.at.new_measure-measure-requires-clause-shallow t c).After-deref in
    let s = m.small in
    let d = ap depth_of (node_read _ _ _ _ _ _ c.cell.ensures c.in-Node.is c.as_slice-kid-items.ensures) in
    let l = c.requires.shallow in
    omega arith

pub new_measure-returns-after-loop-kid-clause-measure : goal.new_measure-returns-after-loop-kid-clause-measure
new_measure-returns-after-loop-kid-clause-measure t c =
    let m = kids_measured t (goal.at.new_measure-returns-after-loop-kid-clause-measure t c).After-deref in
    measured_node (table_of c.args.table.now) (trees c.args.arena.now) _ _ _ _ _ _ _ c.cell.ensures c.in-Node.is c.as_slice-kid-items.ensures m c.measure.ensures.depth c.measure.ensures.small c.measure.ensures.size
