use Rattle.sx_grammar.proofs.Depth.{depth_bounded}
use Rattle.sx_grammar.proofs.laws.depth_is_bounded.Goals as goal

pub returns : goal.returns
returns c = depth_bounded
