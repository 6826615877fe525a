use Rattle.std.proofs.Common.{rules, arith}
use Rattle.std.proofs.lemmas.Grind.{common_steps}
use Rattle.sx_directives.proofs.keyword.is_word_of.Goals as goal

pub returns-after-matches-2 : goal.returns-after-matches-2
returns-after-matches-2 c = first_of (search rules, grind (arith, common_steps))
