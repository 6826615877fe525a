use Rattle.std.proofs.Common.{tests, rules}
use Rattle.sx_forest.proofs.judge.judge.Goals as goal

pub returns-then-depth-gt-MOST_DEPTH : goal.returns-then-depth-gt-MOST_DEPTH
returns-then-depth-gt-MOST_DEPTH c = search (tests, rules)

pub returns-then-depth-gt-MOST_DEPTH-2 : goal.returns-then-depth-gt-MOST_DEPTH-2
returns-then-depth-gt-MOST_DEPTH-2 c = search (tests, rules)
