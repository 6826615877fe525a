use Rattle.sx_walking.proofs.Coming.{those_first}
use Rattle.sx_walking.proofs.laws.those_come_first.Goals as goal

pub returns : goal.returns
returns g c = λ k. those_first (g.K.WalkedKind.kind k)
