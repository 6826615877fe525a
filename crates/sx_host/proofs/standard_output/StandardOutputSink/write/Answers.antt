use Rattle.std.proofs.Common.{arith}
use Rattle.sx_host.proofs.standard_output.StandardOutputSink.write.Goals as goal

pub returns-else-is_ok-clause-cause : goal.returns-else-is_ok-clause-cause
returns-else-is_ok-clause-cause c = λ _ below. omega arith
