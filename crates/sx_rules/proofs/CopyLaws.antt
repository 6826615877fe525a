-- Lists that are copied one element after another.
use Rattle.std.proofs.Common.{◌≡◌, ℕ, ◌+◌, ◌<◌, ◌≤◌, List, [], ◌∷◌, ◌++◌, length, map, take, get_or, sym, ap, ◌∙◌}
use Rattle.std.proofs.lemmas.List.{map-append, take_more, take_all}

module _ {X Z : Type 0} where
  -- a copy of the next element stands behind the copies
  pub copied_more : (f : X → Z) (out xs : List X) (n : ℕ) (x y : X) → map f out ≡ map f (take n xs) → n < length xs → y ≡ get_or xs n y → f x ≡ f y
      → map f (out ++ x ∷ []) ≡ map f (take (n + 1) xs)
  copied_more f out xs n x y same within at here =
      map-append f out (x ∷ []) ∙ (λ i. same i ++ here i ∷ []) ∙ sym (map-append f (take n xs) (y ∷ []))
      ∙ ap (map f) (ap (λ z. take n xs ++ z ∷ []) at ∙ sym (take_more xs n y within))

  -- all are copied
  pub copied_all : (f : X → Z) (out xs : List X) (n : ℕ) → map f out ≡ map f (take n xs) → length xs ≤ n → map f out ≡ map f xs
  copied_all f out xs n same past = same ∙ ap (map f) (take_all n xs past)
