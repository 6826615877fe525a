use Rattle.sx_term.proofs.CutLaws.{IsOutcome-same}
use Rattle.sx_term.proofs.cutting_laws.one_cutting.Goals as goal

pub returns : goal.returns
returns c literals metas bytes one other distinct p q = IsOutcome-same literals metas bytes distinct one other p q
