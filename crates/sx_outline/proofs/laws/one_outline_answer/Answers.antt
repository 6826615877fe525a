use Rattle.sx_outline.proofs.OneOutline.{one_answer}
use Rattle.sx_outline.proofs.laws.one_outline_answer.Goals as goal

pub returns : goal.returns
returns c = one_answer
