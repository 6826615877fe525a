use Rattle.sx_walking.proofs.FewFiles.{few_reached}
use Rattle.sx_walking.proofs.laws.few_are_reached.Goals as goal

pub returns : goal.returns
returns g c = λ k. few_reached (g.K.WalkedKind.kind k)
