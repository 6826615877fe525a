use Rattle.std.proofs.Common.{rules}
use Rattle.sx_uses.proofs.read_extension.bad_header.Goals as goal

pub returns-in-Notation : goal.returns-in-Notation
returns-in-Notation c = search rules
