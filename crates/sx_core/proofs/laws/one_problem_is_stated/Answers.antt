use Rattle.sx_core.proofs.OneProblem.{one_problem}
use Rattle.sx_core.proofs.laws.one_problem_is_stated.Goals as goal

pub returns : goal.returns
returns c = one_problem
