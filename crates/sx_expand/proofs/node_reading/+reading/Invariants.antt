use Rattle.std.proofs.Common.{◌+◌, ◌-◌, ◌*◌, length}
use Rattle.sx_expand.proofs.KidSteps.{IsLooping}
use Rattle.sx_expand.proofs.node_reading.+reading.Given as goal

abbrev pub decreases-read_node : goal.decreases-read_node
decreases-read_node l = 4 * (length l.reading.now.listing.list.now - l.at)

abbrev pub decreases-read_by_rule : goal.decreases-read_by_rule
decreases-read_by_rule l = 4 * (length l.reading.now.listing.list.now - (l.node.now.at + 1)) + 3

abbrev pub decreases-read_kids : goal.decreases-read_kids
decreases-read_kids l = 4 * (length l.reading.now.listing.list.now - (l.node.now.at + 1)) + 2

abbrev pub decreases-read_kid : goal.decreases-read_kid
decreases-read_kid l = 4 * (length l.reading.now.listing.list.now - l.kid.now.at) + 1

abbrev pub invariant-read_kids-loop-premise : goal.invariant-read_kids-loop-premise
invariant-read_kids-loop-premise l = IsLooping l.reading l.node l.premise-items l.premise-index l.at l.fn.reader l.reader l.fn.work l.work l.subjects.items
