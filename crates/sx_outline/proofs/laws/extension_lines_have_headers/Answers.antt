use Rattle.sx_outline.proofs.ExtensionLines.{lines_have_header}
use Rattle.sx_outline.proofs.laws.extension_lines_have_headers.Goals as goal

pub returns : goal.returns
returns c = lines_have_header
