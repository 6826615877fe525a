use Rattle.std.proofs.Common.{arith, []}
use Rattle.sx_rewrite.proofs.Instanced.{no-part}
use Rattle.sx_rewrite.proofs.image_terms.blank.Goals as goal

pub returns : goal.returns
returns c = no-part [] 0 _ c.new.ensures.items (omega arith)
