use Rattle.sx_grammar.specs.declared.sort_line.SortLine.{SortLine}
use Rattle.sx_outline.proofs.PlaceLaws.{places_more, places_all}
use Rattle.sx_outline.proofs.tables.put_sorts.Goals as goal

pub loop-i-preserved : goal.loop-i-preserved
loop-i-preserved c = places_more (λ (x : SortLine). x.name) c.args.sorts.now c.loop-i.i c.index-sorts-i.result c.loop-i.places c.push.new.self c.loop-i-test.true c.index-sorts-i.is c.loop-i.invariant c.in_ok-push.ensures

pub returns : goal.returns
returns c = places_all (λ (x : SortLine). x.name) c.args.sorts.now c.loop-i.i c.loop-i.places c.loop-i-test.false c.loop-i.invariant
