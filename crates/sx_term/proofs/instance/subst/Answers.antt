use Rattle.std.proofs.Common.{rules}
use Rattle.sx_term.proofs.instance.subst.Goals as goal

pub returns-then-depth-gt-MOST_DEPTH : goal.returns-then-depth-gt-MOST_DEPTH
returns-then-depth-gt-MOST_DEPTH c = search rules
