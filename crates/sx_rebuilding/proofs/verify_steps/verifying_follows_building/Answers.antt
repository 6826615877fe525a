use Rattle.sx_rebuilding.proofs.VerifiedBuild.{verifying_follows_building}
use Rattle.sx_rebuilding.proofs.verify_steps.verifying_follows_building.Goals as goal

pub returns : goal.returns
returns c = verifying_follows_building c.interfaces_are_within.ensures c.verifies_agree.ensures
