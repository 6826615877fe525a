use Rattle.sx_auditing.proofs.Denied.{denying-there}
use Rattle.sx_auditing.proofs.laws.denying_stays.Goals as goal

pub returns : goal.returns
returns c = λ file rules old list new s name names there.
    denying-there name names file rules old list new s there
