use Rattle.std.proofs.Common.{length}
use Rattle.sx_core.proofs.Wording.{NamesSoFar}
use Rattle.sx_core.proofs.words.read_names.Given as goal

abbrev pub invariant-loop-left : goal.invariant-loop-left
invariant-loop-left l = NamesSoFar l.text l.names.items l.left

abbrev pub decreases-loop-left : goal.decreases-loop-left
decreases-loop-left l = length l.left
