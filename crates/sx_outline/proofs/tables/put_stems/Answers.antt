use Rattle.sx_directives.specs.declared.rows.VarLine.{VarLine}
use Rattle.sx_outline.proofs.PlaceLaws.{places_more, places_all}
use Rattle.sx_outline.proofs.tables.put_stems.Goals as goal

pub loop-i-preserved : goal.loop-i-preserved
loop-i-preserved c = places_more (λ (x : VarLine). x.stem) c.args.vars.now c.loop-i.i c.index-vars-i.result c.loop-i.places c.push.new.self c.loop-i-test.true c.index-vars-i.is c.loop-i.invariant c.in_ok-push.ensures

pub returns : goal.returns
returns c = places_all (λ (x : VarLine). x.stem) c.args.vars.now c.loop-i.i c.loop-i.places c.loop-i-test.false c.loop-i.invariant
