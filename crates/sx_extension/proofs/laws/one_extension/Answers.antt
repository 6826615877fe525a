use Rattle.sx_extension.proofs.OneExtension.{one_extension}
use Rattle.sx_extension.proofs.laws.one_extension.Goals as goal

pub returns : goal.returns
returns c = one_extension
