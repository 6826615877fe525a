use Rattle.std.proofs.Common.{arith}
use Rattle.std.proofs.lemmas.Grind.{common_steps}
use Rattle.sx_grammar.proofs.extend.with_more.Goals as goal

pub returns-in-Ok-move_behind : goal.returns-in-Ok-move_behind
returns-in-Ok-move_behind c = grind (arith, common_steps)
