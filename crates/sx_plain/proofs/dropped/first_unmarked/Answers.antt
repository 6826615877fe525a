use Rattle.std.proofs.Common.{arith}
use Rattle.sx_plain.proofs.dropped.first_unmarked.Goals as goal

pub loop-i-init : goal.loop-i-init
loop-i-init c = λ v l. absurd (omega (arith, l))
