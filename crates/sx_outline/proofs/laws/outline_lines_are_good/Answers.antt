use Rattle.sx_outline.proofs.RefusedLines.{outline_good}
use Rattle.sx_outline.proofs.laws.outline_lines_are_good.Goals as goal

pub returns : goal.returns
returns c = outline_good
