use Rattle.std.proofs.Common.{◌≡◌, ◌++◌, drop, map, None}
use Rattle.sx_term.specs.Term.{tree}
use Rattle.sx_rules.specs.Views.{is_out}
use Rattle.sx_top.specs.GoalTexts.{places_text}
use Rattle.sx_top.specs.Terms.{AreTerms}
use Rattle.sx_top.proofs.goal_texts.write_open.Given as goal

abbrev pub invariant-loop-place : goal.invariant-loop-place
invariant-loop-place l = record {
  so : l.into.items ++ places_text (map (λ place. is_out place.role) (drop l.place-index l.places)) (map tree l.rest) None ≡ l.initial.into.items ++ places_text (map (λ place. is_out place.role) l.places) (map tree l.initial.rest) None;
  rest_terms : AreTerms (map tree l.rest);
}
