-- Names in a set of texts.
use Rattle.std.proofs.Common.{◌≡◌, ℕ, zero, suc, map, get_or, Bool, true, false, ◌||◌, List, [], ◌∷◌, ◌++◌, ◌⊎◌, inl, inr, ⊎_elim, Option, Some, None, MatchOption, if◌then◌else◌, refl, sym, ap, ◌∙◌, subst, true≢false, is_some, Contains, arith, cond, not, ◌+◌, nat_lt}
use Rattle.std.specs.Prelude.{slice_get, option_map, IsTrue, ◌↔◌}
use Rattle.std.specs.Global.{Vec}
use Rattle.std.specs.List.{list_any, position, position_or_len, AllZip}
use Rattle.std.specs.Str.{bytes_eq}
use Rattle.std.proofs.lemmas.Slice.Eq.{bytes_eq-Decides}
use Rattle.std.proofs.lemmas.Option.{slice_get-map, slice_get-get_or}
use Rattle.std.proofs.lemmas.List.Quantifiers.{position-Some}
use Rattle.std.proofs.lemmas.List.{map-append, length-map}
use Rattle.indexmap.specs.IndexSet.{insert_key}

abbrev Name : Type 0
Name = List ℕ

abbrev Keys : Type 0
Keys = List (Vec ℕ)

abbrev texts_of : Keys → List Name
texts_of keys = map (λ k. k.items) keys

-- the test that finds a name
abbrev finds : Name → Vec ℕ → Bool
finds name k = bytes_eq name k.items

head_or_tail : (x : Name) (xs : List Name) (y : Name) → Contains (x ∷ xs) y → (x ≡ y) ⊎ Contains xs y
head_or_tail x xs y (zero, lt, e) = inl e
head_or_tail x xs y (suc k, lt, e) = inr (k, omega (arith, lt), e)

at_head : (x : Name) (xs : List Name) → Contains (x ∷ xs) x
at_head x xs = (0, omega arith, refl)

in_tail : (x : Name) (xs : List Name) (y : Name) → Contains xs y → Contains (x ∷ xs) y
in_tail x xs y (k, lt, e) = (suc k, omega (arith, lt), e)

or_true : (a b : Bool) → a ≡ true → (a || b) ≡ true
or_true true b e = refl
or_true false b e = absurd (true≢false (sym e))

or_second : (a b : Bool) → b ≡ true → (a || b) ≡ true
or_second true b e = refl
or_second false b e = e

-- a name that is there is found
found_there : (keys : Keys) (name : Name) → Contains (texts_of keys) name → list_any (finds name) keys ≡ true
found_there [] name has = absurd (omega (arith, has.1))
found_there (k ∷ keys) name has = ⊎_elim
    (λ e. or_true (finds name k) (list_any (finds name) keys) ((bytes_eq-Decides name k.items).1 (sym e)))
    (λ h. or_second (finds name k) (list_any (finds name) keys) (found_there keys name h))
    (head_or_tail k.items (texts_of keys) name has)

-- a name that is found is there
there_found : (keys : Keys) (name : Name) → list_any (finds name) keys ≡ true → Contains (texts_of keys) name
there_found [] name e = absurd (true≢false (sym e))
there_found (k ∷ keys) name e = go (finds name k) refl (there_found keys name)
  where
    go : (b : Bool) → finds name k ≡ b → (list_any (finds name) keys ≡ true → Contains (texts_of keys) name) → Contains (texts_of (k ∷ keys)) name
    go true t rest = subst (Contains (texts_of (k ∷ keys))) (sym ((bytes_eq-Decides name k.items).0 t)) (at_head k.items (texts_of keys))
    go false t rest = in_tail k.items (texts_of keys) name (rest (sym (ap (λ (c : Bool). c || list_any (finds name) keys) t) ∙ e))

-- whether a name is there
pub found_is : (keys : Keys) (name : Name) (b : Bool) → b ≡ list_any (finds name) keys → IsTrue b ↔ Contains (texts_of keys) name
found_is keys name b e = ((λ t. there_found keys name (sym e ∙ t)), λ h. e ∙ found_there keys name h)

place_found : (keys : Keys) (name : Name) (i : ℕ) → position (finds name) keys ≡ Some i → slice_get (texts_of keys) i ≡ Some name
place_found [] name i e = absurd cc
place_found (k ∷ keys) name i e =
    let p = position-Some (finds name) (k ∷ keys) i k e in
    slice_get-map (λ x. x.items) (k ∷ keys) i
    ∙ ap (option_map (λ x. x.items)) (slice_get-get_or (k ∷ keys) i k p.0)
    ∙ ap Some (sym ((bytes_eq-Decides name ((get_or (k ∷ keys) i k).items)).0 p.1))

-- the number of a name
pub number_is : (keys : Keys) (name text : Name) (r : Option ℕ) → text ≡ name → r ≡ position (finds text) keys → is_some r ≡ list_any (finds text) keys →
    MatchOption r (¬ (Contains (texts_of keys) name)) (λ n. slice_get (texts_of keys) n ≡ Some name)
number_is keys name text None same at found = λ h.
    true≢false (sym (found_there keys name h) ∙ ap (λ x. list_any (finds x) keys) (sym same) ∙ sym found)
number_is keys name text (Some n) same at found = place_found keys name n (ap (λ x. position (finds x) keys) (sym same) ∙ sym at)

flipped : (a b : Name) → bytes_eq a b ≡ bytes_eq b a
flipped a b = both (bytes_eq a b) refl (bytes_eq b a) refl
  where
    both : (p : Bool) → bytes_eq a b ≡ p → (q : Bool) → bytes_eq b a ≡ q → p ≡ q
    both true e true f = refl
    both true e false f = absurd (true≢false (sym ((bytes_eq-Decides b a).1 (sym ((bytes_eq-Decides a b).0 e))) ∙ f))
    both false e true f = absurd (true≢false (sym ((bytes_eq-Decides a b).1 (sym ((bytes_eq-Decides b a).0 f))) ∙ e))
    both false e false f = refl

same_prefix : (keys : Keys) (name : Name) → position_or_len (finds name) keys ≡ position_or_len (λ other. bytes_eq other name) (texts_of keys)
same_prefix [] name = refl
same_prefix (k ∷ keys) name = ap (λ n. cond (not (bytes_eq name k.items)) (1 + n) 0) (same_prefix keys name)
    ∙ ap (λ b. cond (not b) (1 + position_or_len (λ other. bytes_eq other name) (texts_of keys)) 0) (flipped name k.items)

-- the number of a name is the place where it first stands
pub number_first : (keys : Keys) (name : Name) (r : Option ℕ) → r ≡ position (finds name) keys → r ≡ position (λ other. bytes_eq other name) (texts_of keys)
number_first keys name r at = at ∙ (λ i. let k = same_prefix keys name i in cond (nat_lt k (sym (length-map keys (λ x. x.items)) i)) (Some k) None)

-- a name that is not there goes last
pub pushed_is : (keys after : Keys) (k : Vec ℕ) (name : Name) → k.items ≡ name → ¬ (Contains (texts_of keys) name) →
    after ≡ insert_key (λ x y. bytes_eq x.items y.items) keys k → texts_of after ≡ texts_of keys ++ name ∷ []
pushed_is keys after k name same fresh e = go (list_any (finds k.items) keys) refl
  where
    go : (b : Bool) → list_any (finds k.items) keys ≡ b → texts_of after ≡ texts_of keys ++ name ∷ []
    go true t = absurd (fresh (subst (Contains (texts_of keys)) same (there_found keys k.items t)))
    go false t =
        ap texts_of (e ∙ ap (λ b. if b then keys else (keys ++ k ∷ [])) t)
        ∙ map-append (λ x. x.items) keys (k ∷ [])
        ∙ ap (λ x. texts_of keys ++ x ∷ []) same

-- copies of names, by any relation of equal texts
pub copied_are : (C : Vec ℕ → Vec ℕ → Type 0) (keys after : Keys) → ((v w : Vec ℕ) → C v w → w.items ≡ v.items) → AllZip C keys after → texts_of after ≡ texts_of keys
copied_are C [] [] same are = refl
copied_are C [] (k ∷ after) same are = absurd are
copied_are C (k ∷ keys) [] same are = absurd are
copied_are C (k ∷ keys) (l ∷ after) same are = λ i. same k l are.0 i ∷ copied_are C keys after same are.1 i
