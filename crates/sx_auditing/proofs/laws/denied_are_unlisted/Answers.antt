use Rattle.sx_auditing.proofs.Denied.{denied-unlisted}
use Rattle.sx_auditing.proofs.laws.denied_are_unlisted.Goals as goal

pub returns : goal.returns
returns c = λ file rules old list new s name names there.
    denied-unlisted name names file rules old list new s there
