use Rattle.sx_top.proofs.BuiltVerified.{built_verified}
use Rattle.sx_top.proofs.verify_laws.built_is_verified.Goals as goal

pub returns : goal.returns
returns c = built_verified
