use Rattle.std.proofs.Common.{◌+◌, ◌-◌, ◌*◌, length}
use Rattle.sx_expand.proofs.BoxedKids.{IsBoxing}
use Rattle.sx_expand.proofs.node_boxing.+boxing.Given as goal

abbrev pub decreases-box_node : goal.decreases-box_node
decreases-box_node l = 4 * (length l.origin.now.list.now - l.cursor.now.next)

abbrev pub decreases-box_by_rule : goal.decreases-box_by_rule
decreases-box_by_rule l = 4 * (length l.origin.now.list.now - l.cursor.now.next) + 3

abbrev pub decreases-box_kids : goal.decreases-box_kids
decreases-box_kids l = 4 * (length l.origin.now.list.now - l.cursor.now.next) + 2

abbrev pub decreases-box_kid : goal.decreases-box_kid
decreases-box_kid l = 4 * (length l.origin.now.list.now - l.cursor.now.next) + 1

abbrev pub invariant-box_kids-loop-premise : goal.invariant-box_kids-loop-premise
invariant-box_kids-loop-premise l = IsBoxing l.origin l.number l.premise-items l.premise-index l.fn.cursor l.cursor l.fn.work l.work l.kids.items
