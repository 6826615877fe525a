use Rattle.std.proofs.Common.{tests, rules}
use Rattle.sx_forest.proofs.completing.is_whole.Goals as goal

pub returns-then-span-count : goal.returns-then-span-count
returns-then-span-count c = search (tests, rules)

pub returns-else-span-count : goal.returns-else-span-count
returns-else-span-count c = search (tests, rules)
