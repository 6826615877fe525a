use Rattle.sx_outline.proofs.LanguageLines.{lines_outlined}
use Rattle.sx_outline.proofs.laws.lines_have_outlines.Goals as goal

pub returns : goal.returns
returns c = lines_outlined
