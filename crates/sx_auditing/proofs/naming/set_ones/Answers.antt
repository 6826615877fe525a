use Rattle.std.proofs.Common.{arith}
use Rattle.std.proofs.lemmas.Grind.{common_steps}
use Rattle.sx_auditing.proofs.naming.set_ones.Goals as goal

pub loop-slot-preserved-in-Continue-1 : goal.loop-slot-preserved-in-Continue-1
loop-slot-preserved-in-Continue-1 g c = grind (arith, common_steps)

pub loop-slot-preserved : goal.loop-slot-preserved
loop-slot-preserved g c = grind (arith, common_steps)
