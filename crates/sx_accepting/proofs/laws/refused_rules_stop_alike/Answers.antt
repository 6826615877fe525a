use Rattle.sx_accepting.proofs.OneStop.{refused_rules_stop_alike}
use Rattle.sx_accepting.proofs.laws.refused_rules_stop_alike.Goals as goal

pub returns : goal.returns
returns c = refused_rules_stop_alike
