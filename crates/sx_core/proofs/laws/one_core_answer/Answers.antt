use Rattle.sx_core.proofs.OneAnswer.{one_answer}
use Rattle.sx_core.proofs.laws.one_core_answer.Goals as goal

pub returns : goal.returns
returns c = one_answer
