use Rattle.sx_check.proofs.Promise.{check_promise}
use Rattle.sx_check.proofs.laws.checks_keep_promise.Goals as goal

pub returns : goal.returns
returns c = check_promise
