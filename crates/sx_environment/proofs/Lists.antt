-- Lists that are gone through in order.
use Rattle.std.proofs.Common.{◌≡◌, ℕ, zero, suc, ◌+◌, ◌<◌, List, [], ◌∷◌, ◌++◌, take, drop, get_or}
use Rattle.std.proofs.Common.{length, map, sym, ap, ◌∙◌, subst, arith}
use Rattle.std.specs.List.{AllByRecursion}
use Rattle.std.proofs.lemmas.List.{at_drop_more, length-map, length-take-le, map-append}
use Rattle.std.proofs.lemmas.List.{take-append-drop, take_more}

module _ {A B : Type 0} (f : A → B) (xs : List A) (i : ℕ) (x : A) (within : i < length xs)
    (at : x ≡ get_or xs i x) where
  -- one more of the elements
  pub one_more : map f (take (i + 1) xs) ≡ map f (take i xs) ++ f x ∷ []
  one_more = ap (map f) (take_more xs i x within) ∙ map-append f (take i xs) (get_or xs i x ∷ [])
      ∙ ap (λ (y : A). map f (take i xs) ++ f y ∷ []) (sym at)

  -- those before one, this one, and those after it
  pub split_at : map f xs ≡ map f (take i xs) ++ f x ∷ map f (drop (i + 1) xs)
  split_at = ap (map f) (sym (take-append-drop i xs)) ∙ map-append f (take i xs) (drop i xs)
      ∙ ap (λ (l : List B). map f (take i xs) ++ l) (at_drop_more (map f) xs i x within
      ∙ ap (λ (y : A). f y ∷ map f (drop (i + 1) xs)) (sym at))

  -- how many stand before it
  pub as_many : i ≡ length (map f (take i xs))
  as_many = sym (length-map (take i xs) f ∙ length-take-le i xs (omega (arith, within)))

-- what holds of all holds of each
pub holds_at : {A B : Type 0} (P : B → Type 0) (f : A → B) (xs : List A) (i : ℕ) (x : A) →
    i < length xs → x ≡ get_or xs i x → AllByRecursion P (map f xs) → P (f x)
holds_at P f [] i x within at all = absurd (omega (arith, within))
holds_at P f (y ∷ ys) zero x within at all = subst (λ z. P (f z)) (sym at) all.0
holds_at P f (y ∷ ys) (suc i) x within at all =
    holds_at P f ys i x (omega (arith, within)) at all.1
