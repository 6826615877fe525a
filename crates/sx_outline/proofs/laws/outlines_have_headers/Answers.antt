use Rattle.sx_outline.proofs.ExtensionLines.{header_of_outline}
use Rattle.sx_outline.proofs.laws.outlines_have_headers.Goals as goal

pub returns : goal.returns
returns c = header_of_outline
