use Rattle.sx_typing.proofs.OneTyping.{one_typing}
use Rattle.sx_typing.proofs.laws.one_typing.Goals as goal

pub returns : goal.returns
returns c = one_typing
