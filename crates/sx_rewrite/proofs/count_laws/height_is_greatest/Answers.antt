use Rattle.sx_rewrite.proofs.Summed.{height_is_greatest}
use Rattle.sx_rewrite.proofs.count_laws.height_is_greatest.Goals as goal

pub returns : goal.returns
returns c = height_is_greatest
