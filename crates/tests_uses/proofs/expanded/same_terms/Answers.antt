use Rattle.std.proofs.Common.{arith}
use Rattle.tests_uses.proofs.Fitting.{shallow-term}
use Rattle.tests_uses.proofs.expanded.same_terms.Goals as goal

pub same-requires-clause-self_depth : goal.same-requires-clause-self_depth
same-requires-clause-self_depth c = shallow-term c.args.some.now c.loop-i.i c.index-some-i.result c.requires.some c.loop-i-test.true c.index-some-i.is

pub same-requires-clause-other_depth : goal.same-requires-clause-other_depth
same-requires-clause-other_depth c = shallow-term c.args.others.now c.loop-i.i c.index-others-i.result c.requires.others (let l = c.loop-i-test.true in let e = c.if-some-others.false in omega (arith, l, e)) c.index-others-i.is
