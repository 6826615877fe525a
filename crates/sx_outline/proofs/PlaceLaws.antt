-- The first places of names.
use Rattle.std.proofs.Common.{◌≡◌, ℕ, zero, suc, ◌+◌, ◌<◌, ◌≤◌, Bool, true, false, cond, ltb, ◌⊎◌, inl, inr, List, [], ◌∷◌, ◌++◌, length, get_or, take, map, Option, Some, None, refl, sym, ap, subst, ◌∙◌, arith, Contains}
use Rattle.std.specs.Prelude.{option_map, not}
use Rattle.std.specs.Str.{bytes_eq}
use Rattle.std.specs.HashMap.{get_by_text}
use Rattle.std.specs.Option.{is_some}
use Rattle.std.proofs.Common.{length-take-le}
use Rattle.std.proofs.lemmas.List.{take_more, take_all, map-append, length-map}
use Rattle.sx_outline.specs.declared.places.Places.{Places}
use Rattle.sx_outline.specs.Tables.{ArePlaces}
use Rattle.std.specs.List.{position, position_or_len, find}
use Rattle.std.proofs.lemmas.Slice.Eq.{bytes_eq-Decides}
use Rattle.std.proofs.lemmas.Bool.{lt-ltb, le-ltb, cases_lt, false≢true}

-- the first place that passes, by recursion
abbrev pub first_of : {X : Type 0} → (X → Bool) → List X → Option ℕ
first_of p [] = None
first_of p (x ∷ xs) = cond (p x) (Some 0) (option_map suc (first_of p xs))

position_step : (b : Bool) (k n : ℕ) (r : Option ℕ) → cond (ltb k n) (Some k) None ≡ r
    → cond (ltb (cond (not b) (1 + k) 0) (suc n)) (Some (cond (not b) (1 + k) 0)) None ≡ cond b (Some 0) (option_map suc r)
position_step true k n r e = ap (λ c. cond c (Some 0) None) (lt-ltb 0 (suc n) (omega arith))
position_step false k n r e = by_cases (cases_lt k n)
  where
    by_cases : (k < n) ⊎ (n ≤ k) → cond (ltb (1 + k) (suc n)) (Some (1 + k)) None ≡ option_map suc r
    by_cases (inl lt) =
        let one : 1 + k ≡ suc k = omega arith in
        ap (λ c. cond c (Some (1 + k)) None) (lt-ltb (1 + k) (suc n) (omega arith)) ∙ ap Some one
        ∙ ap (option_map suc) (sym (ap (λ c. cond c (Some k) None) (lt-ltb k n lt)) ∙ e)
    by_cases (inr le) =
        ap (λ c. cond c (Some (1 + k)) None) (le-ltb (1 + k) (suc n) (omega arith))
        ∙ ap (option_map suc) (sym (ap (λ c. cond c (Some k) None) (le-ltb k n le)) ∙ e)

pub position_is : {X : Type 0} (p : X → Bool) (xs : List X) → position p xs ≡ first_of p xs
position_is p [] = refl
position_is p (x ∷ xs) = position_step (p x) (position_or_len p xs) (length xs) (first_of p xs) (position_is p xs)

-- the test of a name
abbrev pub at : List ℕ → List ℕ → Bool
at name other = bytes_eq other name

-- the first place of a name
abbrev pub first_at : List ℕ → List (List ℕ) → Option ℕ
first_at name names = first_of (at name) names

-- ---- one more name

abbrev or_last : Option ℕ → Option ℕ → Option ℕ
or_last (Some i) r = Some i
or_last None r = r

or_none : (r : Option ℕ) → or_last r None ≡ r
or_none (Some i) = refl
or_none None = refl

push_step : (b : Bool) (before : Option ℕ) (test : Bool) (n : ℕ)
    → cond b (Some 0) (option_map suc (or_last before (cond test (Some n) None))) ≡ or_last (cond b (Some 0) (option_map suc before)) (cond test (Some (suc n)) None)
push_step true before test n = refl
push_step false (Some i) test n = refl
push_step false None true n = refl
push_step false None false n = refl

first_push : {X : Type 0} (p : X → Bool) (xs : List X) (y : X) → first_of p (xs ++ y ∷ []) ≡ or_last (first_of p xs) (cond (p y) (Some (length xs)) None)
first_push p [] y = by (p y)
  where
    by : (b : Bool) → cond b (Some 0) (option_map suc None) ≡ or_last None (cond b (Some 0) None)
    by true = refl
    by false = refl
first_push p (x ∷ xs) y = ap (λ r. cond (p x) (Some 0) (option_map suc r)) (first_push p xs y) ∙ push_step (p x) (first_of p xs) (p y) (length xs)

-- a name that is there already changes no first place
pub push_known : (names : List (List ℕ)) (name other : List ℕ) (i : ℕ) → first_at name names ≡ Some i → first_at other names ≡ first_at other (names ++ name ∷ [])
push_known names name other i e = by (bytes_eq name other) refl
  where
    by : (b : Bool) → bytes_eq name other ≡ b → first_at other names ≡ first_at other (names ++ name ∷ [])
    by true t =
        let same : first_at other names ≡ Some i = ap (λ x. first_at x names) (sym ((bytes_eq-Decides name other).0 t)) ∙ e in
        same ∙ sym (ap (λ r. or_last r (cond (bytes_eq name other) (Some (length names)) None)) same) ∙ sym (first_push (at other) names name)
    by false t = sym (or_none (first_at other names)) ∙ ap (λ b. or_last (first_at other names) (cond b (Some (length names)) None)) (sym t) ∙ sym (first_push (at other) names name)

-- a name that is new has the last place
pub push_new : (names : List (List ℕ)) (name other : List ℕ) → first_at name names ≡ None → cond (bytes_eq name other) (Some (length names)) (first_at other names) ≡ first_at other (names ++ name ∷ [])
push_new names name other e = by (bytes_eq name other) refl ∙ sym (first_push (at other) names name)
  where
    by : (b : Bool) → bytes_eq name other ≡ b → cond (bytes_eq name other) (Some (length names)) (first_at other names) ≡ or_last (first_at other names) (cond (bytes_eq name other) (Some (length names)) None)
    by true t =
        let none : first_at other names ≡ None = ap (λ x. first_at x names) (sym ((bytes_eq-Decides name other).0 t)) ∙ e in
        rw (t, none) refl
    by false t = rw t (sym (or_none (first_at other names)))

-- ---- names among the first

contains_here : {X : Type 0} (x y : X) (xs : List X) → x ≡ y → Contains (x ∷ xs) y
contains_here x y xs e = (0, omega arith, e)

contains_later : {X : Type 0} (x y : X) (xs : List X) → Contains xs y → Contains (x ∷ xs) y
contains_later x y xs h = (suc h.0, omega (arith, h.1), h.2)

contains_cases : {X : Type 0} (x y : X) (xs : List X) → Contains (x ∷ xs) y → (x ≡ y) ⊎ Contains xs y
contains_cases x y xs h = by h.0 h.1 h.2
  where
    by : (k : ℕ) → k < suc (length xs) → get_or (x ∷ xs) k y ≡ y → (x ≡ y) ⊎ Contains xs y
    by zero lt e = inl e
    by (suc k) lt e = inr (k, omega arith, e)

later : (r : Option ℕ) (i : ℕ) → option_map suc r ≡ Some i → (j : ℕ) × (r ≡ Some j) × (i ≡ suc j)
later None i e = absurd (let clash : None ≡ Some i = e in cc)
later (Some j) i e = (j, refl, (let same : suc j ≡ i = cc in sym same))

later_none : (r : Option ℕ) → option_map suc r ≡ None → r ≡ None
later_none None e = refl
later_none (Some j) e = absurd (let clash : Some (suc j) ≡ None = e in cc)

none_some : (i : ℕ) → None ≡ Some i → ⊥
none_some i e = cc

zero_is : (i : ℕ) → Some 0 ≡ Some i → i ≡ 0
zero_is i e = let same : 0 ≡ i = cc in sym same

some_none : (i : ℕ) → Some i ≡ None → ⊥
some_none i e = cc

pub before_in : (names : List (List ℕ)) (name : List ℕ) (count i : ℕ) → first_at name names ≡ Some i → i < count → Contains (take count names) name
before_in names name zero i e lt = absurd (omega arith)
before_in [] name (suc count) i e lt = absurd (none_some i e)
before_in (x ∷ names) name (suc count) i e lt = by (bytes_eq x name) refl (before_in names name count)
  where
    by : (b : Bool) → bytes_eq x name ≡ b → ((j : ℕ) → first_at name names ≡ Some j → j < count → Contains (take count names) name) → Contains (x ∷ take count names) name
    by true t rest = contains_here x name (take count names) ((bytes_eq-Decides x name).0 t)
    by false t rest =
        let w = later (first_at name names) i (ap (λ b. cond b (Some 0) (option_map suc (first_at name names))) (sym t) ∙ e) in
        contains_later x name (take count names) (rest w.0 w.1 (omega (arith, w.2)))

pub in_before : (names : List (List ℕ)) (name : List ℕ) (count i : ℕ) → first_at name names ≡ Some i → Contains (take count names) name → i < count
in_before names name zero i e h = absurd (omega (arith, h.1))
in_before [] name (suc count) i e h = absurd (none_some i e)
in_before (x ∷ names) name (suc count) i e h = by (bytes_eq x name) refl (in_before names name count)
  where
    by : (b : Bool) → bytes_eq x name ≡ b → ((j : ℕ) → first_at name names ≡ Some j → Contains (take count names) name → j < count) → i < suc count
    by true t rest = let z = zero_is i (ap (λ b. cond b (Some 0) (option_map suc (first_at name names))) (sym t) ∙ e) in omega (arith, z)
    by false t rest =
        let w = later (first_at name names) i (ap (λ b. cond b (Some 0) (option_map suc (first_at name names))) (sym t) ∙ e) in
        there w.0 w.1 w.2 (contains_cases x name (take count names) h)
      where
        there : (j : ℕ) → first_at name names ≡ Some j → i ≡ suc j → (x ≡ name) ⊎ Contains (take count names) name → i < suc count
        there j f g (inl same) = absurd (false≢true (sym t ∙ (bytes_eq-Decides x name).1 same))
        there j f g (inr k) = let lt = rest j f k in omega (arith, lt, g)

pub none_in : (names : List (List ℕ)) (name : List ℕ) → first_at name names ≡ None → Contains names name → ⊥
none_in [] name e h = omega (arith, h.1)
none_in (x ∷ names) name e h = by (bytes_eq x name) refl (none_in names name)
  where
    by : (b : Bool) → bytes_eq x name ≡ b → (first_at name names ≡ None → Contains names name → ⊥) → ⊥
    by true t rest = some_none 0 (ap (λ b. cond b (Some 0) (option_map suc (first_at name names))) (sym t) ∙ e)
    by false t rest = there (contains_cases x name names h)
      where
        there : (x ≡ name) ⊎ Contains names name → ⊥
        there (inl same) = false≢true (sym t ∙ (bytes_eq-Decides x name).1 same)
        there (inr k) = rest (later_none (first_at name names) (ap (λ b. cond b (Some 0) (option_map suc (first_at name names))) (sym t) ∙ e)) k

pub none_in_front : (names : List (List ℕ)) (name : List ℕ) (count : ℕ) → first_at name names ≡ None → Contains (take count names) name → ⊥
none_in_front names name zero e h = omega (arith, h.1)
none_in_front [] name (suc count) e h = omega (arith, h.1)
none_in_front (x ∷ names) name (suc count) e h = by (bytes_eq x name) refl (none_in_front names name count)
  where
    by : (b : Bool) → bytes_eq x name ≡ b → (first_at name names ≡ None → Contains (take count names) name → ⊥) → ⊥
    by true t rest = some_none 0 (ap (λ b. cond b (Some 0) (option_map suc (first_at name names))) (sym t) ∙ e)
    by false t rest = there (contains_cases x name (take count names) h)
      where
        there : (x ≡ name) ⊎ Contains (take count names) name → ⊥
        there (inl same) = false≢true (sym t ∙ (bytes_eq-Decides x name).1 same)
        there (inr k) = rest (later_none (first_at name names) (ap (λ b. cond b (Some 0) (option_map suc (first_at name names))) (sym t) ∙ e)) k

-- a name that is found is there
pub found_in : (names : List (List ℕ)) (name : List ℕ) (i : ℕ) → first_at name names ≡ Some i → Contains names name
found_in [] name i e = absurd (none_some i e)
found_in (x ∷ names) name i e = by (bytes_eq x name) refl (found_in names name)
  where
    by : (b : Bool) → bytes_eq x name ≡ b → ((j : ℕ) → first_at name names ≡ Some j → Contains names name) → Contains (x ∷ names) name
    by true t rest = contains_here x name names ((bytes_eq-Decides x name).0 t)
    by false t rest =
        let w = later (first_at name names) i (ap (λ b. cond b (Some 0) (option_map suc (first_at name names))) (sym t) ∙ e) in
        contains_later x name names (rest w.0 w.1)

-- ---- the item with a name

module _ {X : Type 0} (f : X → List ℕ) where
  -- the first item with a name is that at its first place
  pub find_place : (xs : List X) (name : List ℕ) (i : ℕ) (d : X) → first_at name (map f xs) ≡ Some i → find (λ x. bytes_eq (f x) name) xs ≡ Some (get_or xs i d)
  find_place [] name i d e = absurd (none_some i e)
  find_place (x ∷ xs) name i d e = by (bytes_eq (f x) name) refl (find_place xs name)
    where
      by : (b : Bool) → bytes_eq (f x) name ≡ b → ((j : ℕ) (c : X) → first_at name (map f xs) ≡ Some j → find (λ y. bytes_eq (f y) name) xs ≡ Some (get_or xs j c))
          → find (λ y. bytes_eq (f y) name) (x ∷ xs) ≡ Some (get_or (x ∷ xs) i d)
      by true t rest =
          let z = zero_is i (ap (λ b. cond b (Some 0) (option_map suc (first_at name (map f xs)))) (sym t) ∙ e) in
          rw t (ap (λ k. Some (get_or (x ∷ xs) k d)) (sym z))
      by false t rest =
          let w = later (first_at name (map f xs)) i (ap (λ b. cond b (Some 0) (option_map suc (first_at name (map f xs)))) (sym t) ∙ e) in
          rw t (rest w.0 d w.1 ∙ ap (λ k. Some (get_or (x ∷ xs) k d)) (sym w.2))

  -- no item has a name that is not found
  pub find_nothing : (xs : List X) (name : List ℕ) → first_at name (map f xs) ≡ None → find (λ x. bytes_eq (f x) name) xs ≡ None
  find_nothing [] name e = refl
  find_nothing (x ∷ xs) name e = by (bytes_eq (f x) name) refl (find_nothing xs name)
    where
      by : (b : Bool) → bytes_eq (f x) name ≡ b → (first_at name (map f xs) ≡ None → find (λ y. bytes_eq (f y) name) xs ≡ None) → find (λ y. bytes_eq (f y) name) (x ∷ xs) ≡ None
      by true t rest = absurd (some_none 0 (ap (λ b. cond b (Some 0) (option_map suc (first_at name (map f xs)))) (sym t) ∙ e))
      by false t rest = rw t (rest (later_none (first_at name (map f xs)) (ap (λ b. cond b (Some 0) (option_map suc (first_at name (map f xs)))) (sym t) ∙ e)))

-- ---- numbers

-- the place that is found is the number
pub number_found : (names : List (List ℕ)) (name : List ℕ) (i : ℕ) → first_at name names ≡ Some i → i < length names
number_found [] name i e = absurd (none_some i e)
number_found (x ∷ names) name i e = by (bytes_eq x name) refl (number_found names name)
  where
    by : (b : Bool) → bytes_eq x name ≡ b → ((j : ℕ) → first_at name names ≡ Some j → j < length names) → i < suc (length names)
    by true t rest = let z = zero_is i (ap (λ b. cond b (Some 0) (option_map suc (first_at name names))) (sym t) ∙ e) in omega (arith, z)
    by false t rest =
        let w = later (first_at name names) i (ap (λ b. cond b (Some 0) (option_map suc (first_at name names))) (sym t) ∙ e) in
        let lt = rest w.0 w.1 in omega (arith, lt, w.2)

-- ---- tables

-- what a table of places answers is the first place
pub found_first : (names : List (List ℕ)) (places : Places) (name : List ℕ) (r : Option ℕ) → ArePlaces names places → r ≡ get_by_text places.entries name → first_at name names ≡ r
found_first names places name r h e = sym (position_is (at name) names) ∙ sym (h name) ∙ sym e

-- a table that answers the first place of each name is one of these names
pub are_places : (names : List (List ℕ)) (places : Places) → ((name : List ℕ) → get_by_text places.entries name ≡ first_at name names) → ArePlaces names places
are_places names places h = λ name. h name ∙ sym (position_is (at name) names)

-- one more name that is known
pub places_known : (names : List (List ℕ)) (places : Places) (name : List ℕ) (r : Option ℕ) → ArePlaces names places → r ≡ get_by_text places.entries name → is_some r ≡ true → ArePlaces (names ++ name ∷ []) places
places_known names places name None h e t = absurd (false≢true t)
places_known names places name (Some i) h e t =
    are_places (names ++ name ∷ []) places (λ other. sym (found_first names places other (get_by_text places.entries other) h refl) ∙ push_known names name other i (found_first names places name (Some i) h e))

-- one more name that is new
pub places_new : (names : List (List ℕ)) (old new : Places) (name key : List ℕ) (r : Option ℕ) → ArePlaces names old → r ≡ get_by_text old.entries name → is_some r ≡ false → key ≡ name
    → ((other : List ℕ) → get_by_text new.entries other ≡ cond (bytes_eq key other) (Some (length names)) (get_by_text old.entries other)) → ArePlaces (names ++ name ∷ []) new
places_new names old new name key (Some i) h e t k u = absurd (false≢true (sym t))
places_new names old new name key None h e t k u =
    are_places (names ++ name ∷ []) new (λ other. u other ∙ ap (λ x. cond (bytes_eq x other) (Some (length names)) (get_by_text old.entries other)) k
    ∙ ap (λ x. cond (bytes_eq name other) (Some (length names)) x) (sym (found_first names old other (get_by_text old.entries other) h refl))
    ∙ push_new names name other (found_first names old name None h e))

-- one item more
pub places_more : {X : Type 0} (f : X → List ℕ) (xs : List X) (i : ℕ) (x : X) (old new : Places) → i < length xs → x ≡ get_or xs i x → ArePlaces (map f (take i xs)) old
    → ((names : List (List ℕ)) → ArePlaces names old → i ≡ length names → ArePlaces (names ++ f x ∷ []) new) → ArePlaces (map f (take (i + 1) xs)) new
places_more f xs i x old new lt is h push =
    let size : i ≡ length (map f (take i xs)) = sym (length-map (take i xs) f ∙ length-take-le i xs (omega arith)) in
    let more : map f (take (i + 1) xs) ≡ map f (take i xs) ++ f x ∷ [] = ap (map f) (take_more xs i x lt ∙ ap (λ y. take i xs ++ y ∷ []) (sym is)) ∙ map-append f (take i xs) (x ∷ []) in
    subst (λ names. ArePlaces names new) (sym more) (push (map f (take i xs)) h size)

pub places_all : {X : Type 0} (f : X → List ℕ) (xs : List X) (i : ℕ) (places : Places) → length xs ≤ i → ArePlaces (map f (take i xs)) places → ArePlaces (map f xs) places
places_all f xs i places le h = subst (λ x. ArePlaces (map f x) places) (take_all i xs le) h

map_twice : {X Y : Type 0} (g : X → Y) (f : Y → List ℕ) (xs : List X) → map (λ x. f (g x)) xs ≡ map f (map g xs)
map_twice g f [] = refl
map_twice g f (x ∷ xs) = ap (λ y. f (g x) ∷ y) (map_twice g f xs)

pub places_seen : {X Y : Type 0} (g : X → Y) (f : Y → List ℕ) (xs : List X) (i : ℕ) (places : Places) → length xs ≤ i → ArePlaces (map (λ x. f (g x)) (take i xs)) places → ArePlaces (map f (map g xs)) places
places_seen g f xs i places le h = subst (λ names. ArePlaces names places) (map_twice g f xs) (places_all (λ x. f (g x)) xs i places le h)
