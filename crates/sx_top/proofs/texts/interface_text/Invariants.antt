use Rattle.std.proofs.Common.{◌≡◌, ◌++◌, drop, map}
use Rattle.sx_term.specs.Term.{tree}
use Rattle.sx_top.specs.CoreTexts.{term_lines}
use Rattle.sx_top.specs.Terms.{AreTerms}
use Rattle.sx_top.proofs.texts.interface_text.Given as goal

abbrev pub invariant-loop-output : goal.invariant-loop-output
invariant-loop-output l = record {
  so : l.bytes.items ++ term_lines (map tree (drop l.output-index l.outputs)) ≡ term_lines (map tree l.outputs);
  rest_terms : AreTerms (map tree (drop l.output-index l.outputs));
}
