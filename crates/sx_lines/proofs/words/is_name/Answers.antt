use Rattle.std.proofs.Common.{arith}
use Rattle.std.proofs.lemmas.Grind.{common_steps}
use Rattle.sx_lines.proofs.words.is_name.Goals as goal

pub returns-else-others-gt-MOST_BYTES_AFTER : goal.returns-else-others-gt-MOST_BYTES_AFTER
unfolding Rattle.sx_lines.specs.Words.is_name
returns-else-others-gt-MOST_BYTES_AFTER c = grind (arith, common_steps)
