use Rattle.std.proofs.Common.{rules}
use Rattle.sx_term.specs.Shapes.{shapes}
use Rattle.sx_term.specs.declared.term.Term.TheViews.{the_lemmas}
use Rattle.sx_term.proofs.Kids.{depth_of-kid}
use Rattle.sx_extension.proofs.Owned.{own_label, own_kid, own_on, none_own}
use Rattle.sx_extension.proofs.own_syntax.OwnSyntax.+stands_in.Goals as goal

pub stands_in-requires : goal.stands_in-requires
stands_in-requires t c =
    let k = depth_of-kid _ _ _ _ _ _ c.in-Node.is c.deref-kid-items.ensures.value c.loop-kid-test.true c.kid-item.is in
    search (rules, the_lemmas)

pub returns-then-has : goal.returns-then-has
returns-then-has t c =
    own_label (shapes c.args.self.now.shapes.now) c.args.self.now.first c.args.term.now c.in-Node.label c.in-Node.kids c.in-Node.is c.has.result c.if-has.true c.has.ensures

pub returns-then-stands_in : goal.returns-then-stands_in
returns-then-stands_in t c =
    own_kid (shapes c.args.self.now.shapes.now) c.args.self.now.first c.args.term.now c.in-Node.label c.in-Node.kids c.in-Node.is c.deref-kid-items.result.now c.deref-kid-items.ensures.value
    c.loop-kid.kid-index c.kid-item.result c.stands_in.result c.loop-kid-test.true c.kid-item.is c.if-stands_in.true c.stands_in.ensures c.loop-kid.invariant

pub returns-after-loop-kid : goal.returns-after-loop-kid
returns-after-loop-kid t c =
    none_own (shapes c.args.self.now.shapes.now) c.args.self.now.first c.args.term.now c.in-Node.label c.in-Node.kids c.in-Node.is c.deref-kid-items.result.now c.deref-kid-items.ensures.value
    c.has.result c.loop-kid.kid-index c.if-has.false c.has.ensures c.loop-kid-test.false c.loop-kid.invariant

pub loop-kid-preserved : goal.loop-kid-preserved
loop-kid-preserved t c =
    own_on (shapes c.args.self.now.shapes.now) c.args.self.now.first c.args.term.now c.in-Node.label c.in-Node.kids c.in-Node.is c.deref-kid-items.result.now c.deref-kid-items.ensures.value
    c.loop-kid.kid-index c.kid-item.result c.stands_in.result c.loop-kid-test.true c.kid-item.is c.if-stands_in.false c.stands_in.ensures c.loop-kid.invariant
