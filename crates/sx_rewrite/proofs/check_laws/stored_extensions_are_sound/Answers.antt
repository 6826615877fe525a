use Rattle.sx_rewrite.proofs.Checks.{stored_extensions_are_sound}
use Rattle.sx_rewrite.proofs.check_laws.stored_extensions_are_sound.Goals as goal

pub returns : goal.returns
returns c = stored_extensions_are_sound
