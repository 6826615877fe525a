-- Elements of a list that is seen by a function.
use Rattle.std.proofs.Common.{◌≡◌, ℕ, ◌<◌, ◌≤◌, List, map, length, get_or, refl, sym, ap, ◌∙◌}
use Rattle.std.proofs.Common.{arith}
use Rattle.std.specs.Prelude.{Some, option_map, slice_get}
use Rattle.std.proofs.lemmas.List.{length-map}
use Rattle.std.proofs.lemmas.Option.{slice_get-map, slice_get_read, get_or_from_slice_get}

module _ {A B : Type 0} (f : A → B) (xs : List A) (i : ℕ) where
  pub seen_within : i < length xs → i < length (map f xs)
  seen_within lt = let same = length-map xs f in omega (arith, same, lt)

  pub seen_past : length xs ≤ i → length (map f xs) ≤ i
  seen_past le = let same = length-map xs f in omega (arith, same, le)

  pub seen_at : (x : A) → i < length xs → x ≡ get_or xs i x → f x ≡ get_or (map f xs) i (f x)
  seen_at x lt is =
      let at : slice_get (map f xs) i ≡ Some (f x) = slice_get-map f xs i
      ∙ ap (option_map f) (slice_get_read xs (length xs) i x refl lt is) in
      sym (get_or_from_slice_get (map f xs) i (f x) (f x) at)
