use Rattle.sx_grammar.specs.declared.production.Production.{Production}
use Rattle.sx_grammar.specs.Parts.{Line, line}
use Rattle.sx_outline.proofs.PlaceLaws.{places_more, places_seen}
use Rattle.sx_outline.proofs.tables.put_labels.Goals as goal

pub loop-i-preserved : goal.loop-i-preserved
loop-i-preserved c = places_more (λ (x : Production). x.label) c.args.productions.now c.loop-i.i c.index-productions-i.result c.loop-i.places c.push.new.self c.loop-i-test.true c.index-productions-i.is c.loop-i.invariant c.in_ok-push.ensures

pub returns : goal.returns
returns c = places_seen line (λ (x : Line). x.label) c.args.productions.now c.loop-i.i c.loop-i.places c.loop-i-test.false c.loop-i.invariant
