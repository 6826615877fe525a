use Rattle.std.proofs.Common.{rules, arith}
use Rattle.std.proofs.lemmas.Grind.{common_steps}
use Rattle.sx_directives.proofs.part_texts.literal_of.Goals as goal

pub returns-else-not-are_plain_bytes : goal.returns-else-not-are_plain_bytes
returns-else-not-are_plain_bytes c = first_of (search rules, grind (arith, common_steps))
