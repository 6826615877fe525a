use Rattle.sx_core.proofs.FindLaws.{no_word}
use Rattle.sx_core.proofs.sort_reading.line_sort.Goals as goal

pub returns-in-None : goal.returns-in-None
returns-in-None c = no_word c.args.text.now c.in-None.ensures
