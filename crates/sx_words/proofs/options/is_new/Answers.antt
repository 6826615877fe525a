use Rattle.std.proofs.Common.{rules}
use Rattle.sx_words.specs.Commands.{is_new}
use Rattle.sx_words.proofs.options.is_new.Goals as goal

pub returns-then-is_none-2 : goal.returns-then-is_none-2
unfolding is_new
returns-then-is_none-2 c = search rules
