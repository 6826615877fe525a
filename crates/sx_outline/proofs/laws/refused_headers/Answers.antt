use Rattle.sx_outline.proofs.RefusedHeaders.{header_refused}
use Rattle.sx_outline.proofs.laws.refused_headers.Goals as goal

pub returns : goal.returns
returns c = header_refused
