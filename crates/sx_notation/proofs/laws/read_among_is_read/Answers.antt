use Rattle.sx_notation.proofs.AmongNames.{among_is_read}
use Rattle.sx_notation.proofs.laws.read_among_is_read.Goals as goal

pub returns : goal.returns
returns c = among_is_read
