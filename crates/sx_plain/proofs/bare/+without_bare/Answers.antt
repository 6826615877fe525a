use Rattle.std.proofs.Common.{arith, rules, refl, ◌∙◌, ◌≤◌, ◌<◌, length}
use Rattle.sx_term.specs.Tree.{depth_of}
use Rattle.sx_term.specs.Term.{tree}
use Rattle.sx_plain.specs.Views.{table_of}
use Rattle.sx_plain.proofs.BareLaws.{kid_less, without_none, without_more, without_depth, same_node, without_clear}
use Rattle.sx_plain.proofs.bare.+without_bare.Goals as goal

pub without_bare-requires : goal.without_bare-requires
without_bare-requires t c =
    let l : c.loop-i.i < length c.in-Node.kids.items = (let a = c.loop-i-test.true in let b = c.len-i-end.ensures in let k = c.in-Node.kids.ok in omega arith) in
    let d = kid_less c.past_bare.result.now _ _ _ _ c.in-Node.is l c.index.ensures in
    let e = c.past_bare.ensures.depth in
    let s = c.requires in
    let m : depth_of (tree c.index.result.now) ≤ 1000 = omega arith in
    let n : depth_of (tree c.index.result.now) < depth_of (tree c.args.term.now) = omega arith in
    search rules

pub loop-i-init : goal.loop-i-init
loop-i-init t c = without_none (table_of c.args.table.now) _ _ c.in_ok-parts-in-Node.ensures.items

pub loop-i-preserved : goal.loop-i-preserved
loop-i-preserved t c =
    let l : c.loop-i.i < length c.in-Node.kids.items = (let a = c.loop-i-test.true in let b = c.len-i-end.ensures in let k = c.in-Node.kids.ok in omega arith) in
    without_more (table_of c.args.table.now) _ _ _ _ _ _ c.loop-i.invariant l c.index.ensures c.in_ok-without_bare-in-Node.ensures.none c.in_ok-without_bare-in-Node.ensures.same c.in_ok-without_bare-in-Node.ensures.depth c.in_ok-push-in-Node.ensures.items

pub returns-after-loop-i-clause-same : goal.returns-after-loop-i-clause-same
returns-after-loop-i-clause-same t c =
    let l : length c.in-Node.kids.items ≤ c.loop-i.i = (let a = c.loop-i-test.false in let b = c.len-i-end.ensures in let k = c.in-Node.kids.ok in omega arith) in
    same_node (table_of c.args.table.now) _ _ c.past_bare.result.now _ _ _ c.loop-i.invariant.same l c.in-Node.is refl ∙ c.past_bare.ensures.same

pub returns-after-loop-i-clause-depth : goal.returns-after-loop-i-clause-depth
returns-after-loop-i-clause-depth t c =
    let d = without_depth (table_of c.args.table.now) c.in-Node.label c.loop-i.parts c.past_bare.result.now c.in-Node.kids c.loop-i.i c.loop-i.invariant c.in-Node.is in
    let e = c.past_bare.ensures.depth in
    omega arith

pub returns-after-loop-i-clause-none : goal.returns-after-loop-i-clause-none
returns-after-loop-i-clause-none t c =
    let l : length c.in-Node.kids.items ≤ c.loop-i.i = (let a = c.loop-i-test.false in let b = c.len-i-end.ensures in let k = c.in-Node.kids.ok in omega arith) in
    without_clear (table_of c.args.table.now) _ _ c.past_bare.result.now _ _ _ c.loop-i.invariant l c.in-Node.is refl c.past_bare.ensures.last
