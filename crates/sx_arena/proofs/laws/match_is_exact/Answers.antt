use Rattle.sx_arena.proofs.laws.match_is_exact.Goals as goal
use Rattle.sx_arena.proofs.Exact.{match_is_exact}

pub returns : goal.returns
returns c = match_is_exact
