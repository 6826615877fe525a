use Rattle.sx_compile.proofs.Promise.{compiles_keep_promise}
use Rattle.sx_compile.proofs.laws.compiles_keep_promise.Goals as goal

pub returns : goal.returns
returns c = compiles_keep_promise
