use Rattle.std.proofs.Common.{rules}
use Rattle.sx_earley.proofs.packed_item.PackedItem.is.Goals as goal

pub returns-then-self-other-3-clause-yes : goal.returns-then-self-other-3-clause-yes
returns-then-self-other-3-clause-yes c = search rules
