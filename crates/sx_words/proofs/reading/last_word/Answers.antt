use Rattle.std.proofs.Common.{rules}
use Rattle.sx_words.specs.Reading.{last_word}
use Rattle.sx_words.proofs.reading.last_word.Goals as goal

pub returns-in_ok-command-in-empty : goal.returns-in_ok-command-in-empty
unfolding last_word
returns-in_ok-command-in-empty c = search rules
