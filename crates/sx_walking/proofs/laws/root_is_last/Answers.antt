use Rattle.sx_walking.proofs.Lasting.{root_last}
use Rattle.sx_walking.proofs.laws.root_is_last.Goals as goal

pub returns : goal.returns
returns g c = λ k. root_last (g.K.WalkedKind.kind k)
