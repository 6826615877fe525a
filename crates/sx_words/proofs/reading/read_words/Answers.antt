use Rattle.sx_words.proofs.MisfitLaws.{is_answer, is_only}
use Rattle.sx_words.proofs.reading.read_words.Goals as goal

pub returns-clause-answer : goal.returns-clause-answer
returns-clause-answer c = is_answer c.args.words.now c.command_of.result c.command_of.ensures

pub returns-clause-only : goal.returns-clause-only
returns-clause-only c = λ meant spelled. is_only c.args.words.now c.command_of.result meant spelled c.command_of.ensures
