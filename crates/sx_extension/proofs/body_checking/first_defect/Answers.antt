use Rattle.std.proofs.Common.{arith}
use Rattle.sx_term.specs.Shapes.{shapes}
use Rattle.sx_rules.specs.Views.{forms, named}
use Rattle.sx_extension.specs.Bodies.{subject_of}
use Rattle.sx_extension.proofs.Bodying.{rule_there, body_there, read_at, shallow_at, of_tree, bodied_on, defect_on, defect_here}
use Rattle.sx_extension.proofs.body_checking.first_defect.Goals as goal

pub index-rule-requires : goal.index-rule-requires
index-rule-requires c =
    let m = rule_there (forms c.args.forms.now) c.args.lines.now c.args.read.now.rules.items c.args.read.now.bodies.items c.loop-i.i c.requires.read c.loop-i-test.true in
    omega (arith, m)

pub index-body-requires : goal.index-body-requires
index-body-requires c =
    let m = body_there (forms c.args.forms.now) c.args.lines.now c.args.read.now.rules.items c.args.read.now.bodies.items c.loop-i.i c.requires.read c.loop-i-test.true in
    omega (arith, m)

pub body_defect-requires : goal.body_defect-requires
body_defect-requires c =
    let bodies = c.args.read.now.bodies.items in
    let there = body_there (forms c.args.forms.now) c.args.lines.now c.args.read.now.rules.items bodies c.loop-i.i c.requires.read c.loop-i-test.true in
    record { shallow = of_tree c.index-body.result.now (shallow_at bodies c.loop-i.i c.index-body.result.now c.requires.shallow there c.index-body.ensures) }

pub returns-in-Some : goal.returns-in-Some
returns-in-Some c =
    let known = forms c.args.forms.now in
    let ls = c.args.lines.now in
    let rs = c.args.read.now.rules.items in
    let bs = c.args.read.now.bodies.items in
    let i = c.loop-i.i in
    let l = c.index-lines-i.result in
    let r = c.index-rule.result.now in
    let b = c.index-body.result.now in
    let rule = rule_there known ls rs bs i c.requires.read c.loop-i-test.true in
    let body = body_there known ls rs bs i c.requires.read c.loop-i-test.true in
    let was = read_at known ls rs bs i l r b c.requires.read c.loop-i-test.true c.index-lines-i.is c.index-rule.ensures c.index-body.ensures in
    defect_here known (shapes c.args.own.now.shapes.now) c.args.own.now.first ls rs bs i l r b c.loop-i-test.true rule body c.index-lines-i.is c.index-rule.ensures c.index-body.ensures
    c.in-Some.defect (c.in-Some.ensures (subject_of known (named r)) c.has_subject-subject.ensures was) c.loop-i.invariant.defect

pub loop-i-preserved : goal.loop-i-preserved
loop-i-preserved c =
    let known = forms c.args.forms.now in
    let all = shapes c.args.own.now.shapes.now in
    let first = c.args.own.now.first in
    let ls = c.args.lines.now in
    let rs = c.args.read.now.rules.items in
    let bs = c.args.read.now.bodies.items in
    let i = c.loop-i.i in
    let l = c.index-lines-i.result in
    let r = c.index-rule.result.now in
    let b = c.index-body.result.now in
    let rule = rule_there known ls rs bs i c.requires.read c.loop-i-test.true in
    let body = body_there known ls rs bs i c.requires.read c.loop-i-test.true in
    let was = read_at known ls rs bs i l r b c.requires.read c.loop-i-test.true c.index-lines-i.is c.index-rule.ensures c.index-body.ensures in
    let good = c.in_default.ensures (subject_of known (named r)) c.has_subject-subject.ensures was in
    record {
      bodied = bodied_on known all first ls rs bs i l r b c.loop-i-test.true rule body c.index-lines-i.is c.index-rule.ensures c.index-body.ensures good c.loop-i.invariant.bodied;
      defect = defect_on known all first ls rs bs i l r b c.loop-i-test.true rule body c.index-lines-i.is c.index-rule.ensures c.index-body.ensures good c.loop-i.invariant.defect;
    }
