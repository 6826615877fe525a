use Rattle.std.proofs.Common.{◌<◌, length, arith}
use Rattle.sx_term.proofs.ShapeLaws.{too_few, one_differs, one_more, all_same}
use Rattle.sx_term.proofs.shapes.go_on_from.Goals as goal

pub returns-then-all-first : goal.returns-then-all-first
returns-then-all-first c = too_few c.args.all.now c.args.first.now c.if-all-first.true

pub returns-then-not-same : goal.returns-then-not-same
returns-then-not-same c =
    let within : c.loop-i.i < length c.args.all.now = omega arith in
    one_differs c.args.all.now c.args.first.now c.loop-i.i c.index-all-i.result c.index-first-i.result c.same.result within c.loop-i-test.true c.index-all-i.is c.index-first-i.is c.if-not-same.true c.same.ensures

pub loop-i-preserved : goal.loop-i-preserved
loop-i-preserved c =
    let within : c.loop-i.i < length c.args.all.now = omega arith in
    one_more c.args.all.now c.args.first.now c.loop-i.i c.index-all-i.result c.index-first-i.result within c.loop-i-test.true c.index-all-i.is c.index-first-i.is (c.same.ensures.0 c.if-not-same.false) c.loop-i.invariant

pub returns : goal.returns
returns c = all_same c.args.all.now c.args.first.now c.loop-i.i c.loop-i-test.false c.loop-i.invariant
