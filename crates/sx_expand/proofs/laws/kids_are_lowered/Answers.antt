use Rattle.sx_expand.proofs.KidsLowered.{kids-lowered}
use Rattle.sx_expand.proofs.laws.kids_are_lowered.Goals as goal

pub returns : goal.returns
returns c = λ sig base shapes a ok hyps below need terms kids numbers js derived read.
    let x = kids-lowered sig base shapes a ok hyps below need terms kids numbers js derived read in (x.news, x.lowered, x.subjects)
