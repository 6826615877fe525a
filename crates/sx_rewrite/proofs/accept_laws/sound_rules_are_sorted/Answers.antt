use Rattle.sx_rewrite.proofs.accept_laws.sound_rules_are_sorted.Goals as goal
use Rattle.sx_rewrite.proofs.Sound.{sound_rules_are_sorted}

pub returns : goal.returns
returns c = sound_rules_are_sorted
