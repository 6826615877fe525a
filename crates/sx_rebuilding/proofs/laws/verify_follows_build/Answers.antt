use Rattle.sx_rebuilding.proofs.GivenAgain.{verify_follows_build}
use Rattle.sx_rebuilding.proofs.laws.verify_follows_build.Goals as goal

pub returns : goal.returns
returns c = verify_follows_build c.verifying_follows_building.ensures
