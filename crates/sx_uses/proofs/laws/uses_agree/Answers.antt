use Rattle.sx_uses.proofs.Agreeing.{uses_one}
use Rattle.sx_uses.proofs.laws.uses_agree.Goals as goal

pub returns : goal.returns
returns c = uses_one c.one_extension_header.ensures
