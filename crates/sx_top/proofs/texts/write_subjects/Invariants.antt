use Rattle.std.proofs.Common.{◌≡◌, ◌++◌, drop, map}
use Rattle.sx_term.specs.Term.{tree}
use Rattle.sx_top.specs.CoreTexts.{subjects, term_lines}
use Rattle.sx_top.specs.Terms.{AreTerms}
use Rattle.sx_top.proofs.texts.write_subjects.Given as goal

abbrev pub invariant-loop-place : goal.invariant-loop-place
invariant-loop-place l = record {
  so : l.into.items ++ term_lines (subjects (map (λ place. place.role) (drop l.place-index l.places)) (map tree l.rest)) ≡ l.initial.into.items ++ term_lines (subjects (map (λ place. place.role) l.places) (map tree l.initial.rest));
  rest_terms : AreTerms (map tree l.rest);
}
