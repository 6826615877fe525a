use Rattle.sx_directives.specs.Spelling.{IsVariable}
use Rattle.sx_directives.proofs.SpellingLaws.{each_more, each_none}
use Rattle.sx_directives.proofs.variables.variables_of.Goals as goal

pub returns-in-Err : goal.returns-in-Err
returns-in-Err c = each_none IsVariable c.args.parts.now c.loop-part.part-index c.in-Err.e c.loop-part-test.true c.in-Err.ensures

pub loop-part-preserved : goal.loop-part-preserved
loop-part-preserved c = each_more IsVariable c.args.parts.now c.loop-part.part-index c.loop-part.names.items _ c.in-Ok.name c.loop-part-test.true c.in_ok-push-in-Ok.ensures.items c.loop-part.invariant c.in-Ok.ensures
