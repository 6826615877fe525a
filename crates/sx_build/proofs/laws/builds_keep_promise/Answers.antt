use Rattle.sx_build.proofs.Promise.{builds_keep_promise}
use Rattle.sx_build.proofs.laws.builds_keep_promise.Goals as goal

pub returns : goal.returns
returns c = builds_keep_promise
