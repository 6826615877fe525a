use Rattle.std.proofs.Common.{◌+◌, ◌*◌}
use Rattle.sx_rules.specs.Derivations.{height_of, most_height}
use Rattle.sx_rules.specs.ProofView.{proof, boxed}
use Rattle.sx_rewrite.proofs.Grafted.{PutSoFar}
use Rattle.sx_rewrite.proofs.grafting.+filling.Given as goal

abbrev pub decreases-filled : goal.decreases-filled
decreases-filled l = 2 * height_of (proof l.proof)

abbrev pub decreases-fill_each : goal.decreases-fill_each
decreases-fill_each l = 2 * most_height (boxed l.parts.now) + 1

abbrev pub invariant-fill_each-loop-i : goal.invariant-fill_each-loop-i
invariant-fill_each-loop-i l = PutSoFar l.initial.next l.initial.kids l.initial.parts l.i l.next l.kids l.parts
