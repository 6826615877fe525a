use Rattle.sx_extcheck.proofs.AddedSound.{added_rules_are_sound}
use Rattle.sx_extcheck.proofs.laws.added_rules_are_sound.Goals as goal

pub returns : goal.returns
returns c = added_rules_are_sound
