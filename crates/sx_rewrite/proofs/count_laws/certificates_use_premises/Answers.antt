use Rattle.sx_rewrite.proofs.Summed.{certificates_use_premises}
use Rattle.sx_rewrite.proofs.count_laws.certificates_use_premises.Goals as goal

pub returns : goal.returns
returns c = certificates_use_premises
