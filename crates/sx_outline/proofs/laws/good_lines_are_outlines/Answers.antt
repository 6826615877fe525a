use Rattle.sx_outline.proofs.GoodOutlines.{good_outlined}
use Rattle.sx_outline.proofs.laws.good_lines_are_outlines.Goals as goal

pub returns : goal.returns
returns c = good_outlined
