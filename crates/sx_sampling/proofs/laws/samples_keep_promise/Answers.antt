use Rattle.sx_sampling.proofs.Promise.{samples_keep_promise}
use Rattle.sx_sampling.proofs.laws.samples_keep_promise.Goals as goal

pub returns : goal.returns
returns c = samples_keep_promise
