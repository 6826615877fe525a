-- The subject among the places of a form.
use Rattle.std.proofs.Common.{◌≡◌, ℕ, ◌+◌, ◌<◌, ◌≤◌, true, false, List, ◌∷◌, length, drop, get_or, Option, Some, None, refl, ap, ◌∙◌, sym}
use Rattle.std.specs.Prelude.{option_map}
use Rattle.std.specs.List.{find}
use Rattle.std.proofs.lemmas.List.{drop_more, drop_all}
use Rattle.sx_term.specs.declared.sort.Sort.{Sort}
use Rattle.sx_rules.specs.declared.rule.Place.{Place}
use Rattle.sx_rules.specs.Views.{is_sub}

-- the sort of the first of the places that is a subject
abbrev pub subject_in : List Place → Option Sort
subject_in ps = option_map (λ p. p.sort) (find (λ p. is_sub p.role) ps)

first_found : (p : Place) (ps : List Place) → is_sub p.role ≡ true → subject_in (p ∷ ps) ≡ Some p.sort
first_found p ps e = rw e refl

first_past : (p : Place) (ps : List Place) → is_sub p.role ≡ false → subject_in (p ∷ ps) ≡ subject_in ps
first_past p ps e = rw e refl

module _ (ps : List Place) (i : ℕ) (p : Place) (low : i < length ps) (is : p ≡ get_or ps i p) (before : subject_in (drop i ps) ≡ subject_in ps) where
  split : drop i ps ≡ p ∷ drop (i + 1) ps
  split = drop_more ps i p low ∙ ap (λ x. x ∷ drop (i + 1) ps) (sym is)

  pub subject_here : is_sub p.role ≡ true → Some p.sort ≡ subject_in ps
  subject_here e = sym (first_found p (drop (i + 1) ps) e) ∙ sym (ap subject_in split) ∙ before

  pub subject_past : is_sub p.role ≡ false → subject_in (drop (i + 1) ps) ≡ subject_in ps
  subject_past e = sym (first_past p (drop (i + 1) ps) e) ∙ sym (ap subject_in split) ∙ before

-- there is no further place
pub no_subject : (ps : List Place) (i : ℕ) → length ps ≤ i → subject_in (drop i ps) ≡ subject_in ps → None ≡ subject_in ps
no_subject ps i past before = sym (ap subject_in (drop_all i ps past)) ∙ before
