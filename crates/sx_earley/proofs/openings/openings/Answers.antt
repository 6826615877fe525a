use Rattle.sx_earley.proofs.Opened.{all_open}
use Rattle.sx_earley.proofs.openings.openings.Goals as goal

pub returns : goal.returns
returns c = all_open c.args.grammar.now c.file_bracketed.new.table c.in_ok-file_bracketed.ensures
