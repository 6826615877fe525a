use Rattle.sx_derive.proofs.laws.answers_are_bounded.Goals as goal
use Rattle.sx_derive.proofs.Bounded.{answers_are_bounded}

pub returns : goal.returns
returns c = answers_are_bounded
