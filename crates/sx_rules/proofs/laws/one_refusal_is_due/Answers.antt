use Rattle.sx_rules.proofs.Refusals.{one_refusal}
use Rattle.sx_rules.proofs.laws.one_refusal_is_due.Goals as goal

pub returns : goal.returns
returns c = one_refusal
