use Rattle.std.proofs.Common.{ap, arith, rules, max, ◌≡◌, List}
use Rattle.sx_term.specs.declared.term.Term.{Term}
use Rattle.sx_term.specs.declared.term.Term.TheViews.{the_lemmas}
use Rattle.sx_term.proofs.Kids.{trees, tree-at_node, trees-drop, trees-drop_all, depth_of-kid, greatest_depth-at, greatest_depth-kids}
use Rattle.sx_plain.specs.Measures.{depth_with, greatest_with, size_with, total_with}
use Rattle.sx_plain.specs.PartMeasures.{depths_of, sizes_of}
use Rattle.sx_rewrite.proofs.instance_measuring.+instance_measure.Goals as goal

pub instance_measure-measure-requires : goal.instance_measure-measure-requires
instance_measure-measure-requires t c =
    let k = depth_of-kid _ _ _ _ _ _ c.in-Node.is c.deref-kid-items.ensures.value c.loop-kid-test.true c.kid-item.is in
    search (rules, the_lemmas)

pub loop-kid-preserved : goal.loop-kid-preserved
loop-kid-preserved t c =
    let e = trees-drop _ _ _ c.loop-kid-test.true c.kid-item.is in
    let d = ap (greatest_with (depths_of c.args.parts.now)) e in
    let n = ap (total_with (sizes_of c.args.parts.now)) e in
    let g = greatest_depth-at _ _ _ c.loop-kid-test.true c.kid-item.is in
    let kd = c.instance_measure-measure.ensures.depth in
    let ks = c.instance_measure-measure.ensures.small in
    let kn = c.instance_measure-measure.ensures.size in
    let m : c.max-depth.result ≡ max c.loop-kid.depth c.instance_measure-measure.result.depth = c.max-depth.ensures in
    let w = c.saturating_add-size.ensures in
    let vd = c.loop-kid.invariant.depth in
    let vs = c.loop-kid.invariant.small in
    let vn = c.loop-kid.invariant.size in
    record {
      depth = omega arith;
      small = omega arith;
      size = omega arith;
      fits = omega arith;
    }

pub overflow_add-result : goal.overflow_add-result
overflow_add-result t c =
    let k = greatest_depth-kids _ _ _ _ c.in-Node.is c.deref-kid-items.ensures.value in
    let s = c.requires.shallow in
    let v = c.loop-kid.invariant.small in
    grind arith

pub returns-after-loop-kid-clause-depth : goal.returns-after-loop-kid-clause-depth
returns-after-loop-kid-clause-depth t c =
    let e = ap (depth_with (depths_of c.args.parts.now)) (tree-at_node _ _ _ c.in-Node.is) in
    let r = ap (λ (ts : List Term). greatest_with (depths_of c.args.parts.now) (trees ts)) c.deref-kid-items.ensures.value in
    let d = ap (greatest_with (depths_of c.args.parts.now)) (trees-drop_all c.deref-kid-items.result.now c.loop-kid.kid-index c.loop-kid-test.false) in
    let v = c.loop-kid.invariant.depth in
    omega arith

pub returns-after-loop-kid-clause-small : goal.returns-after-loop-kid-clause-small
returns-after-loop-kid-clause-small t c =
    let k = greatest_depth-kids _ _ _ _ c.in-Node.is c.deref-kid-items.ensures.value in
    let v = c.loop-kid.invariant.small in
    omega arith

pub returns-after-loop-kid-clause-size : goal.returns-after-loop-kid-clause-size
returns-after-loop-kid-clause-size t c =
    let e = ap (size_with (sizes_of c.args.parts.now)) (tree-at_node _ _ _ c.in-Node.is) in
    let r = ap (λ (ts : List Term). total_with (sizes_of c.args.parts.now) (trees ts)) c.deref-kid-items.ensures.value in
    let d = ap (total_with (sizes_of c.args.parts.now)) (trees-drop_all c.deref-kid-items.result.now c.loop-kid.kid-index c.loop-kid-test.false) in
    let v = c.loop-kid.invariant.size in
    let f = c.loop-kid.invariant.fits in
    omega arith
