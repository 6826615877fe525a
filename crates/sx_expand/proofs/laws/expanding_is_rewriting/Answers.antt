use Rattle.sx_expand.proofs.RewrittenAlike.{expanding_is_rewriting}
use Rattle.sx_expand.proofs.laws.expanding_is_rewriting.Goals as goal

pub returns : goal.returns
returns c = expanding_is_rewriting
