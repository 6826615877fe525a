use Rattle.std.proofs.Common.{arith, rules, ◌∙◌, ◌≤◌}
use Rattle.sx_term.specs.Tree.{depth_of}
use Rattle.sx_term.specs.Term.{tree}
use Rattle.sx_plain.specs.Views.{table_of}
use Rattle.sx_plain.proofs.BareLaws.{kid_image, kid_depth, no_kid}
use Rattle.sx_plain.proofs.bare.+past_bare.Goals as goal

pub past_bare-requires : goal.past_bare-requires
past_bare-requires t c =
    let d = kid_depth _ c.args.term.now _ _ _ _ c.in-Node.is c.deref.ensures.value c.in-Some.ensures in
    let s = c.requires in
    let m : depth_of (tree c.in-Some.kid.now) ≤ 1000 = omega arith in
    search rules

pub returns-in-Some-clause-same : goal.returns-in-Some-clause-same
returns-in-Some-clause-same t c =
    c.past_bare.ensures.same ∙ kid_image (table_of c.args.table.now) c.args.term.now _ _ _ _ c.in-Node.is c.deref.ensures.value c.in-Some.ensures

pub returns-in-Some-clause-depth : goal.returns-in-Some-clause-depth
returns-in-Some-clause-depth t c =
    let d = kid_depth _ c.args.term.now _ _ _ _ c.in-Node.is c.deref.ensures.value c.in-Some.ensures in
    let e = c.past_bare.ensures.depth in
    omega arith

pub returns-in-None-clause-last : goal.returns-in-None-clause-last
returns-in-None-clause-last t c = no_kid (table_of c.args.table.now) c.args.term.now _ _ _ c.in-Node.is c.deref.ensures.value c.in-None.ensures
