use Rattle.sx_accepting.proofs.UnsoundRules.{unsound_is_final}
use Rattle.sx_accepting.proofs.laws.unsound_is_final.Goals as goal

pub returns : goal.returns
returns c = unsound_is_final
