use Rattle.std.proofs.Common.{◌≡◌, ◌++◌, length, map}
use Rattle.sx_term.specs.Term.{tree}
use Rattle.sx_rules.specs.Deep.{AreShallow}
use Rattle.sx_core.specs.TermsText.{terms_text, HaveCores}
use Rattle.sx_core.proofs.TermsLaws.{OnlyLeft, OnlyDeepLeft}
use Rattle.sx_core.proofs.terms_row.read_terms.Given as goal

abbrev pub invariant-loop-i : goal.invariant-loop-i
invariant-loop-i l = record {
  many : length l.found.items ≡ l.i;
  cores : HaveCores (map tree l.found.items);
  shallow : AreShallow (map tree l.found.items);
  text : l.fn.rest ≡ terms_text (map tree l.found.items) ++ l.left;
  only : OnlyLeft l.fn.rest l.count l.left l.i;
  deep : OnlyDeepLeft l.fn.rest l.count l.left l.i;
}
