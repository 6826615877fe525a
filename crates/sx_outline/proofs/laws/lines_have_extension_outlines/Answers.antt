use Rattle.sx_outline.proofs.ExtensionLines.{lines_extended}
use Rattle.sx_outline.proofs.laws.lines_have_extension_outlines.Goals as goal

pub returns : goal.returns
returns c = lines_extended
