-- The names of the metavariables of the first rule with a name.
use Rattle.std.proofs.Common.{◌≡◌, ℕ, ◌+◌, ◌<◌, ◌≤◌, drop, get_or, length, Bool, true, false, List}
use Rattle.std.proofs.Common.{[], ◌∷◌, refl, sym, ap, ◌∙◌, if◌then◌else◌}
use Rattle.std.proofs.lemmas.List.{drop_more, drop_all}
use Rattle.std.proofs.lemmas.Slice.Eq.{bytes_eq-Decides}
use Rattle.std.specs.Str.{bytes_eq}
use Rattle.sx_grammar.specs.Grammar.{Text}
use Rattle.sx_accepting.specs.AcceptanceStops.{vars_named}

-- the rule at the front has the name, or another one
pub vars-here : (n : Text) (names : List Text) (v : List Text) (vars : List (List Text))
    (name : Text) → n ≡ name → vars_named (n ∷ names) (v ∷ vars) name ≡ v
vars-here n names v vars name e =
    ap (λ (b : Bool). if b then v else vars_named names vars name) ((bytes_eq-Decides n name).1 e)

pub vars-later : (n : Text) (names : List Text) (v : List Text) (vars : List (List Text))
    (name : Text) → (n ≡ name → ⊥) → vars_named (n ∷ names) (v ∷ vars) name ≡ vars_named names vars
    name
vars-later n names v vars name other = go (bytes_eq n name) refl
  where
    go : (b : Bool) → bytes_eq n name ≡ b →
        vars_named (n ∷ names) (v ∷ vars) name ≡ vars_named names vars name
    go true e = absurd (other ((bytes_eq-Decides n name).0 e))
    go false e = ap (λ (b : Bool). if b then v else vars_named names vars name) e

no-vars : (names : List Text) (name : Text) → vars_named names [] name ≡ []
no-vars [] name = refl
no-vars (n ∷ names) name = refl

list-at : {X : Type 0} (xs : List X) (i : ℕ) (x : X) → i < length xs → x ≡ get_or xs i x →
    drop i xs ≡ x ∷ drop (i + 1) xs
list-at {X} xs i x l e = drop_more xs i x l ∙ ap (λ (y : X). y ∷ drop (i + 1) xs) (sym e)

-- by the rules from one on
module _ (names : List Text) (vars : List (List Text)) (name : Text) (i : ℕ)
    (so : vars_named (drop i names) (drop i vars) name ≡ vars_named names vars name) where
  module _ (own : Text) (v : List Text) (l : i < length names) (m : i < length vars)
      (e : own ≡ get_or names i own) (f : v ≡ get_or vars i v) where
    both-at : vars_named (drop i names) (drop i vars) name ≡ vars_named (own ∷ drop (i + 1) names)
        (v ∷ drop (i + 1) vars) name
    both-at = λ k. vars_named (list-at names i own l e k) (list-at vars i v m f k) name

    pub found-vars : own ≡ name → vars_named names vars name ≡ v
    found-vars same = sym so ∙ both-at ∙ vars-here own (drop (i + 1) names) v (drop (i + 1) vars)
        name same

    pub later-vars : (own ≡ name → ⊥) → vars_named (drop (i + 1) names) (drop (i + 1) vars) name ≡
        vars_named names vars name
    later-vars other = sym (both-at ∙ vars-later own (drop (i + 1) names) v (drop (i + 1) vars)
        name other) ∙ so

  pub short-vars : length vars ≤ i → vars_named names vars name ≡ []
  short-vars l = sym so ∙ ap (λ (vs : List (List Text)). vars_named (drop i names) vs name)
      (drop_all i vars l) ∙ no-vars (drop i names) name

  pub ended-vars : length names ≤ i → vars_named names vars name ≡ []
  ended-vars l = sym so ∙ ap (λ (ns : List Text). vars_named ns (drop i vars) name)
      (drop_all i names l)
