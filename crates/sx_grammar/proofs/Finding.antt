-- Where things stand in lists.
use Rattle.std.proofs.Common.{◌≡◌, ℕ, zero, suc, ◌+◌, ◌<◌, List, [], ◌∷◌, length, map, Bool, true, false, not, cond, Some, sym, refl, ap, ◌∙◌, subst, arith, ◌⊎◌, inl, inr, ⊎_elim, Contains}
use Rattle.std.specs.Prelude.{slice_get, None, filter, unwrap_or, flat_map}
use Rattle.std.specs.List.{position_or_len}
use Rattle.std.specs.Str.{bytes_eq}
use Rattle.std.proofs.lemmas.Slice.Eq.{bytes_eq-Decides}
use Rattle.std.proofs.lemmas.Option.{slice_get_within, slice_get-get_or, get_or_from_slice_get}
use Rattle.std.proofs.lemmas.List.Elements.{Contains-append_left, Contains-append_right}
use Rattle.std.proofs.lemmas.Bool.{false≢true, lt-ltb}
use Rattle.sx_term.specs.Cutting.{AreDistinct}
use Rattle.sx_grammar.specs.Grammar.{Text}
use Rattle.sx_grammar.specs.Parts.{number_of}
use Rattle.sx_grammar.specs.Distinct.{distinct}

module _ {X : Type 0} where
  pub at_contains : (xs : List X) (i : ℕ) (x : X) → slice_get xs i ≡ Some x → Contains xs x
  at_contains xs i x e = (i, slice_get_within xs i x e, get_or_from_slice_get xs i x x e)

  -- the place of an element
  pub contains_place : (xs : List X) (x : X) → Contains xs x → (i : ℕ) × (slice_get xs i ≡ Some x)
  contains_place xs x has = (has.0, slice_get-get_or xs has.0 x has.1 ∙ ap Some has.2)

  pub is_head : (x : X) (xs : List X) → Contains (x ∷ xs) x
  is_head x xs = (0, omega arith, refl)

  pub past_head : (x : X) (xs : List X) (y : X) → Contains xs y → Contains (x ∷ xs) y
  past_head x xs y (k, lt, e) = (suc k, omega (arith, lt), e)

  pub head_or_rest : (x : X) (xs : List X) (y : X) → Contains (x ∷ xs) y → (x ≡ y) ⊎ Contains xs y
  head_or_rest x xs y (zero, lt, e) = inl e
  head_or_rest x xs y (suc k, lt, e) = inr (k, omega (arith, lt), e)

  pub filter_at : (p : X → Bool) (xs : List X) (i : ℕ) (x : X) → slice_get (filter p xs) i ≡ Some x → Contains xs x × (p x ≡ true)
  filter_at p [] i x e = let clash : None ≡ Some x = e in cc
  filter_at p (y ∷ xs) i x e = at_first (p y) refl i e (λ j h. filter_at p xs j x h)
    where
      at_first : (b : Bool) → p y ≡ b → (i : ℕ) → slice_get (filter p (y ∷ xs)) i ≡ Some x → ((j : ℕ) → slice_get (filter p xs) j ≡ Some x → Contains xs x × (p x ≡ true)) → Contains (y ∷ xs) x × (p x ≡ true)
      at_first false t i e rest = let h = rest i (rw t at e) in (past_head y xs x h.0, h.1)
      at_first true t zero e rest =
          let here : slice_get (y ∷ filter p xs) zero ≡ Some x = rw t at e in
          let same : y ≡ x = cc in
          (subst (Contains (y ∷ xs)) same (is_head y xs), subst (λ z. p z ≡ true) same t)
      at_first true t (suc i) e rest =
          let there : slice_get (y ∷ filter p xs) (suc i) ≡ Some x = rw t at e in
          let h = rest i there in (past_head y xs x h.0, h.1)

module _ {X Y : Type 0} where
  -- what a mapped list has at a place comes from what the list has there
  pub mapped_at : (f : X → Y) (xs : List X) (i : ℕ) (y : Y) → slice_get (map f xs) i ≡ Some y → (x : X) × (slice_get xs i ≡ Some x) × (f x ≡ y)
  mapped_at f [] i y e = let clash : None ≡ Some y = e in cc
  mapped_at f (x ∷ xs) zero y e = (x, refl, (let h : f x ≡ y = cc in h))
  mapped_at f (x ∷ xs) (suc i) y e = mapped_at f xs i y e

  pub in_flat_map : (f : X → List Y) (xs : List X) (x : X) (y : Y) → Contains xs x → Contains (f x) y → Contains (flat_map f xs) y
  in_flat_map f [] x y has there = absurd (omega (arith, has.1))
  in_flat_map f (z ∷ xs) x y has there = ⊎_elim
      (λ same. Contains-append_left (f z) (flat_map f xs) y (subst (λ w. Contains (f w) y) (sym same) there))
      (λ rest. Contains-append_right (f z) (flat_map f xs) y (in_flat_map f xs x y rest there))
      (head_or_rest z xs x has)

cons_distinct : (x : Text) (xs : List Text) → ¬ (Contains xs x) → AreDistinct xs → AreDistinct (x ∷ xs)
cons_distinct x xs new are zero zero text a b = refl
cons_distinct x xs new are zero (suc j) text a b = let same : x ≡ text = cc in absurd (new (subst (Contains xs) (sym same) (at_contains xs j text b)))
cons_distinct x xs new are (suc i) zero text a b = let same : x ≡ text = cc in absurd (new (subst (Contains xs) (sym same) (at_contains xs i text a)))
cons_distinct x xs new are (suc i) (suc j) text a b = ap suc (are i j text a b)

tail_distinct : (x : Text) (xs : List Text) → AreDistinct (x ∷ xs) → AreDistinct xs
tail_distinct x xs are i j text a b = let h : suc i ≡ suc j = are (suc i) (suc j) text a b in omega (arith, h)

head_is_new : (x : Text) (xs : List Text) → AreDistinct (x ∷ xs) → ¬ (Contains xs x)
head_is_new x xs are has =
    let place = contains_place xs x has in
    let h : zero ≡ suc place.0 = are zero (suc place.0) x refl place.1 in omega (arith, h)

filter_distinct : (p : Text → Bool) (xs : List Text) → AreDistinct xs → AreDistinct (filter p xs)
filter_distinct p [] are = are
filter_distinct p (x ∷ xs) are = at_first (p x) refl (filter_distinct p xs (tail_distinct x xs are))
  where
    at_first : (b : Bool) → p x ≡ b → AreDistinct (filter p xs) → AreDistinct (filter p (x ∷ xs))
    at_first false t rest = rw t rest
    at_first true t rest = rw t (cons_distinct x (filter p xs) (λ has. let place = contains_place (filter p xs) x has in head_is_new x xs are (filter_at p xs place.0 x place.1).0) rest)

-- the distinct texts of a list are distinct
pub distinct_are : (xs : List Text) → AreDistinct (distinct xs)
distinct_are [] = λ i j text a b. let clash : None ≡ Some text = a in cc
distinct_are (x ∷ xs) =
    let p : Text → Bool = λ y. not (bytes_eq x y) in
    cons_distinct x (filter p (distinct xs))
    (λ has.
    let place = contains_place (filter p (distinct xs)) x has in
    let other : not (bytes_eq x x) ≡ true = (filter_at p (distinct xs) place.0 x place.1).1 in
    false≢true (sym (ap not ((bytes_eq-Decides x x).1 refl)) ∙ other))
    (filter_distinct p (distinct xs) (distinct_are xs))

-- the place of a name that is among the names
first_place : (ns : List Text) (name : Text) → ¬ (¬ (Contains ns name)) → (position_or_len (λ other. bytes_eq other name) ns < length ns) × (slice_get ns (position_or_len (λ other. bytes_eq other name) ns) ≡ Some name)
first_place [] name known = absurd (known (λ has. omega (arith, has.1)))
first_place (n ∷ ns) name known = at_first (bytes_eq n name) refl (first_place ns name)
  where
    at_first : (b : Bool) → bytes_eq n name ≡ b
        → (¬ (¬ (Contains ns name)) → (position_or_len (λ other. bytes_eq other name) ns < length ns) × (slice_get ns (position_or_len (λ other. bytes_eq other name) ns) ≡ Some name))
        → (position_or_len (λ other. bytes_eq other name) (n ∷ ns) < length (n ∷ ns)) × (slice_get (n ∷ ns) (position_or_len (λ other. bytes_eq other name) (n ∷ ns)) ≡ Some name)
    at_first true t rest = rw t (omega arith, ap Some ((bytes_eq-Decides n name).0 t))
    at_first false t rest =
        let more = rest (λ no_one. known (λ has. ⊎_elim (λ same. false≢true (sym t ∙ (bytes_eq-Decides n name).1 same)) no_one (head_or_rest n ns name has))) in
        let k = position_or_len (λ other. bytes_eq other name) ns in
        let one_more : 1 + k ≡ suc k = omega arith in
        rw t (omega (arith, more.0), ap (slice_get (n ∷ ns)) one_more ∙ more.1)

pub named_at : (ns : List Text) (name : Text) → ¬ (¬ (Contains ns name)) → slice_get ns (number_of ns name) ≡ Some name
named_at ns name known =
    let place = first_place ns name known in
    let k = position_or_len (λ other. bytes_eq other name) ns in
    ap (λ b. slice_get ns (unwrap_or (cond b (Some k) None) (length ns))) (lt-ltb k (length ns) place.0) ∙ place.1
