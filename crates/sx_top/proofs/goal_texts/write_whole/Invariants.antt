use Rattle.std.proofs.Common.{◌≡◌, ◌++◌, drop, map, Some}
use Rattle.sx_term.specs.Term.{tree}
use Rattle.sx_rules.specs.Views.{is_out}
use Rattle.sx_top.specs.GoalTexts.{places_text}
use Rattle.sx_top.specs.Terms.{AreTerms}
use Rattle.sx_top.proofs.goal_texts.write_whole.Given as goal

abbrev pub invariant-loop-place : goal.invariant-loop-place
invariant-loop-place l = record {
  so : l.into.items ++ places_text (map (λ place. is_out place.role) (drop l.place-index l.places)) (map tree l.rest) (Some (map tree l.left)) ≡ l.initial.into.items ++ places_text (map (λ place. is_out place.role) l.places) (map tree l.initial.rest) (Some (map tree l.initial.left));
  rest_terms : AreTerms (map tree l.rest);
  left_terms : AreTerms (map tree l.left);
}
