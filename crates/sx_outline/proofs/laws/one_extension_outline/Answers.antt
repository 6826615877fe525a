use Rattle.sx_outline.proofs.OneExtension.{one_extension}
use Rattle.sx_outline.proofs.laws.one_extension_outline.Goals as goal

pub returns : goal.returns
returns c = one_extension
