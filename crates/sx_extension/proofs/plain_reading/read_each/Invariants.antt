use Rattle.std.proofs.Common.{◌≡◌, map}
use Rattle.sx_grammar.specs.Parts.{labels}
use Rattle.sx_extension.specs.PlainBodies.{body_data}
use Rattle.sx_extension.proofs.PlainsRead.{Before}
use Rattle.sx_extension.proofs.plain_reading.read_each.Given as goal

abbrev pub invariant-loop-i : goal.invariant-loop-i
invariant-loop-i l = record {
  known : l.known ≡ labels l.grammar.parts;
  before : Before l.grammar.parts l.tables l.plains l.i (map body_data l.bodies.items);
}
