use Rattle.std.proofs.Common.{arith}
use Rattle.std.proofs.lemmas.Grind.{common_steps}
use Rattle.sx_auditing.proofs.naming.unset.Goals as goal

pub loop-auditor-preserved : goal.loop-auditor-preserved
loop-auditor-preserved g c = grind (arith, common_steps)
