use Rattle.std.proofs.Common.{◌≡◌, take}
use Rattle.sx_term.specs.Cutting.{AreDistinct}
use Rattle.sx_grammar.specs.Parts.{texts}
use Rattle.sx_grammar.proofs.firsts.number.Given as goal

abbrev pub invariant-loop-text : goal.invariant-loop-text
invariant-loop-text l = record {
  same : l.names ≡ take l.text-index (texts l.list);
  distinct : AreDistinct l.names;
}
