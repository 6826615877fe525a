use Rattle.sx_uses.proofs.Coming.{come_first}
use Rattle.sx_uses.proofs.laws.uses_come_first.Goals as goal

pub returns : goal.returns
returns c = come_first
