use Rattle.std.proofs.Common.{rules}
use Rattle.sx_rewrite.proofs.image_terms.put_image.Goals as goal

pub returns-in-Plain : goal.returns-in-Plain
returns-in-Plain c = search rules
