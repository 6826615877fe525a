use Rattle.sx_replay.proofs.OneAnswer.{one_answer}
use Rattle.sx_replay.proofs.laws.one_answer_is_due.Goals as goal

pub returns : goal.returns
returns c = one_answer
