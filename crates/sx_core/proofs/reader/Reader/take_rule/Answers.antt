use Rattle.std.proofs.Common.{refl}
use Rattle.sx_core.proofs.reader.Reader.take_rule.Goals as goal

pub returns-in-Declaring : goal.returns-in-Declaring
returns-in-Declaring c = (c.in-Declaring.is, _, refl, record { line = refl; name_is = refl; sorts_are = refl; premises = c.new.ensures.items }, (refl, refl))
