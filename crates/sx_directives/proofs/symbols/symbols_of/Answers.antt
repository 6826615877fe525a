use Rattle.sx_directives.specs.Spelling.{SpellsSymbol}
use Rattle.sx_directives.proofs.SpellingLaws.{each_more, each_none}
use Rattle.sx_directives.proofs.symbols.symbols_of.Goals as goal

pub returns-in-Err : goal.returns-in-Err
returns-in-Err c = each_none SpellsSymbol c.args.parts.now c.loop-part.part-index c.in-Err.e c.loop-part-test.true c.in-Err.ensures

pub loop-part-preserved : goal.loop-part-preserved
loop-part-preserved c = each_more SpellsSymbol c.args.parts.now c.loop-part.part-index c.loop-part.symbols.items _ c.in-Ok.symbol c.loop-part-test.true c.in_ok-push-in-Ok.ensures.items c.loop-part.invariant c.in-Ok.ensures
