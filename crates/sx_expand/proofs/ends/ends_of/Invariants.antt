use Rattle.std.proofs.Common.{◌≤◌, length}
use Rattle.sx_rules.specs.EntryView.{entries}
use Rattle.sx_rewrite.specs.AcceptedView.{accepted}
use Rattle.sx_expand.specs.Standing.{AreEndsFrom}
use Rattle.sx_expand.proofs.ends.ends_of.Given as goal

abbrev pub invariant-loop-left : goal.invariant-loop-left
invariant-loop-left l = (l.left ≤ length l.list) × AreEndsFrom (accepted l.set) (entries l.list) l.left l.ends.items

abbrev pub decreases-loop-left : goal.decreases-loop-left
decreases-loop-left l = l.left
