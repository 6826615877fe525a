use Rattle.std.proofs.Common.{◌+◌, ◌*◌}
use Rattle.sx_rules.specs.Derivations.{height_of, most_height}
use Rattle.sx_rules.specs.ProofView.{proof, boxed}
use Rattle.sx_rules.specs.Sets.{forms_in}
use Rattle.sx_rules.specs.Views.{hypotheses, subjects_in}
use Rattle.sx_rewrite.specs.AcceptedView.{accepted}
use Rattle.sx_rewrite.specs.Needed.{needed}
use Rattle.sx_rewrite.specs.SourceView.{set_of}
use Rattle.sx_rewrite.specs.Stored.{certificate_at}
use Rattle.sx_rewrite.proofs.LoweringKids.{LoweredSoFar}
use Rattle.sx_rewrite.proofs.lowering.+lowering.Given as goal

abbrev pub decreases-lower_proof : goal.decreases-lower_proof
decreases-lower_proof l = 3 * height_of (proof l.proof.now)

abbrev pub decreases-lower_kids : goal.decreases-lower_kids
decreases-lower_kids l = 3 * most_height (boxed l.kids.now) + 2

abbrev pub decreases-lower_kid : goal.decreases-lower_kid
decreases-lower_kid l = 3 * height_of (proof l.kid.now) + 1

abbrev pub invariant-lower_kids-loop-i : goal.invariant-lower_kids-loop-i
invariant-lower_kids-loop-i l =
    LoweredSoFar (set_of l.source) (subjects_in (forms_in l.source.set.now.base)) (hypotheses l.source.given.now) (needed (certificate_at (accepted l.source.set.now) l.rule)) l.kids l.i l.lowered.items
