use Rattle.sx_accepting.proofs.OneExtended.{extends_agree}
use Rattle.sx_accepting.proofs.laws.extends_agree.Goals as goal

pub returns : goal.returns
returns c = extends_agree
