use Rattle.sx_typing.proofs.Walks.{typings_are_first}
use Rattle.sx_typing.proofs.laws.typings_are_first.Goals as goal

pub returns : goal.returns
returns c = typings_are_first
