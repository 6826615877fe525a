use Rattle.sx_outline.proofs.NameLaws.{texts_more, texts_all}
use Rattle.sx_outline.proofs.tables.put_uses.Goals as goal

pub loop-i-preserved : goal.loop-i-preserved
loop-i-preserved c = texts_more c.args.uses.now c.loop-i.i c.index-uses-i.result c.loop-i.places c.push.new.self c.loop-i-test.true c.index-uses-i.is c.loop-i.invariant c.in_ok-push.ensures

pub returns : goal.returns
returns c = texts_all c.args.uses.now c.loop-i.i c.loop-i.places c.loop-i-test.false c.loop-i.invariant
