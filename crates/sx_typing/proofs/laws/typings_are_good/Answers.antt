use Rattle.sx_typing.proofs.GoodTypings.{typings_are_good}
use Rattle.sx_typing.proofs.laws.typings_are_good.Goals as goal

pub returns : goal.returns
returns c = typings_are_good
