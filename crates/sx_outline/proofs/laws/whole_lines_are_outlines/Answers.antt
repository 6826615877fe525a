use Rattle.sx_outline.proofs.WholeOutlines.{whole_outlined}
use Rattle.sx_outline.proofs.laws.whole_lines_are_outlines.Goals as goal

pub returns : goal.returns
returns c = whole_outlined
