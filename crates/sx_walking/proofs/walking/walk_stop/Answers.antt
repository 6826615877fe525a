use Rattle.std.proofs.Common.{rules}
use Rattle.sx_walking.proofs.walking.walk_stop.Goals as goal

pub returns-in-Cycle : goal.returns-in-Cycle
returns-in-Cycle c = search rules
