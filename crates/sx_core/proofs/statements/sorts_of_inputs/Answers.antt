use Rattle.sx_core.proofs.StatementLaws.{inputs_more}
use Rattle.sx_core.proofs.statements.sorts_of_inputs.Goals as goal

pub loop-i-preserved : goal.loop-i-preserved
loop-i-preserved c = inputs_more c.args.places.now c.loop-i.i _ c.loop-i.sorts.items c.push_input.new.sorts.items c.loop-i-test.true c.in_ok-push_input.ensures c.loop-i.invariant
