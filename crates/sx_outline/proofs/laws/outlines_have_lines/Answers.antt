use Rattle.sx_outline.proofs.LanguageLines.{outline_lines}
use Rattle.sx_outline.proofs.laws.outlines_have_lines.Goals as goal

pub returns : goal.returns
returns c = outline_lines
