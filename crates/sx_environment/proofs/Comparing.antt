-- Lists that are compared element by element.
use Rattle.std.proofs.Common.{◌≡◌, ℕ, ◌<◌, ◌↔◌, true, false, IsTrue, List, get_or, length}
use Rattle.std.proofs.Common.{map, sym, ap, ◌∙◌, arith}
use Rattle.std.proofs.lemmas.List.{get_or-map}

-- lists differ where two elements do
pub differ_at : {A B C : Type 0} (f : A → C) (g : B → C) (xs : List A) (ys : List B) (i : ℕ)
    (x : A) (y : B) → i < length xs → length xs ≡ length ys → x ≡ get_or xs i x →
    y ≡ get_or ys i y → (IsTrue false ↔ (f x ≡ g y)) → IsTrue false ↔ (map f xs ≡ map g ys)
differ_at {C = C} f g xs ys i x y within long here there differ = (
  λ t. let e : false ≡ true = t in cc,
  λ e. differ.1 (ap f here ∙ sym (get_or-map f xs i x (f x) within)
      ∙ ap (λ (l : List C). get_or l i (f x)) e
      ∙ get_or-map g ys i y (f x) (omega (arith, within, long)) ∙ sym (ap g there)),
)
