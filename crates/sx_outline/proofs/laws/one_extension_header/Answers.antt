use Rattle.sx_outline.proofs.OneHeader.{one_header_answer}
use Rattle.sx_outline.proofs.laws.one_extension_header.Goals as goal

pub returns : goal.returns
returns c = one_header_answer
