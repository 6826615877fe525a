use Rattle.std.proofs.Common.{◌≡◌, ◌++◌, ℕ, List, map, sym, ap, ◌∙◌, subst}
use Rattle.std.specs.Prelude.{None}
use Rattle.std.specs.Str.{IsUtf8}
use Rattle.std.proofs.lemmas.Str.{IsUtf8-append}
use Rattle.sx_term.specs.Term.{tree}
use Rattle.sx_term.specs.declared.term.Term.{Term}
use Rattle.sx_rules.specs.Views.{is_out}
use Rattle.sx_top.specs.GoalTexts.{places_text}
use Rattle.sx_top.specs.Terms.{AreTerms}
use Rattle.sx_top.proofs.Utf8.{open_utf8}
use Rattle.sx_top.proofs.goal_texts.open_goal.Goals as goal

pub of_utf8-requires : goal.of_utf8-requires
of_utf8-requires c =
    let modes = map (λ place. is_out place.role) c.places_of.result.now in
    let inputs = map tree c.deref.result.now in
    let all : c.deref-2.result.now ≡ c.name_of.result.now ++ places_text modes inputs None = c.deref-2.ensures.value ∙ c.in_ok-write_open.ensures ∙ ap (λ (l : List ℕ). l ++ places_text modes inputs None) c.in_ok-bytes.ensures.items in
    subst IsUtf8 (sym all) (IsUtf8-append c.name_of.result.now (places_text modes inputs None) c.name_of.ensures.utf8 (open_utf8 modes inputs (subst (λ (l : List Term). AreTerms (map tree l)) (sym c.deref.ensures.value) c.requires)))
