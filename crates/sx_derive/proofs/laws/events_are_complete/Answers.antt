use Rattle.sx_derive.proofs.laws.events_are_complete.Goals as goal
use Rattle.sx_derive.proofs.Walked.{events_are_complete}

pub returns : goal.returns
returns c = events_are_complete
