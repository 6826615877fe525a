use Rattle.sx_uses.proofs.Lasting.{come_last}
use Rattle.sx_uses.proofs.laws.root_comes_last.Goals as goal

pub returns : goal.returns
returns c = come_last
