use Rattle.sx_verify.proofs.Promise.{verify_promise}
use Rattle.sx_verify.proofs.laws.verifies_keep_promise.Goals as goal

pub returns : goal.returns
returns c = verify_promise
