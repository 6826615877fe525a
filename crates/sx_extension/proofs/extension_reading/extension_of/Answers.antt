use Rattle.std.proofs.Common.{refl}
use Rattle.sx_extension.proofs.extension_reading.extension_of.Goals as goal

pub returns-in-Ok : goal.returns-in-Ok
returns-in-Ok c = record {
  grammar = refl;
  rule_grammar = refl;
  name = refl;
  rules = c.in-Ok.ensures.rules;
  bodies = c.in-Ok.ensures.bodies;
  names = refl;
  plain = refl;
}
