use Rattle.sx_rules.proofs.derivation_laws.outputs_have_texts.Goals as goal
use Rattle.sx_rules.proofs.Texts.{outputs_have_texts}

pub returns : goal.returns
returns c = outputs_have_texts
