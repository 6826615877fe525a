use Rattle.std.proofs.Common.{arith}
use Rattle.std.proofs.lemmas.Grind.{common_steps}
use Rattle.sx_grammar.proofs.standing.sorts_named.Goals as goal

pub loop-production-preserved : goal.loop-production-preserved
loop-production-preserved c = grind (arith, common_steps)
