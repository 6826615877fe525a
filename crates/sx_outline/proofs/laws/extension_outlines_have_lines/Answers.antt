use Rattle.sx_outline.proofs.ExtensionLines.{extension_lines}
use Rattle.sx_outline.proofs.laws.extension_outlines_have_lines.Goals as goal

pub returns : goal.returns
returns c = extension_lines
