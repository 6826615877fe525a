use Rattle.sx_derive.proofs.laws.events_are_sound.Goals as goal
use Rattle.sx_derive.proofs.Walked.{events_are_sound}

pub returns : goal.returns
returns c = events_are_sound
