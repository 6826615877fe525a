use Rattle.sx_walking.proofs.Agreeing.{walks_alike}
use Rattle.sx_walking.proofs.laws.walks_agree.Goals as goal

pub returns : goal.returns
returns g c = λ k. walks_alike (g.K.WalkedKind.kind k)
