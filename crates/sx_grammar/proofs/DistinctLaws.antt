-- The distinct texts of a list, one text after another.
use Rattle.std.proofs.Common.{◌≡◌, ℕ, zero, suc, ◌+◌, ◌≤◌, List, [], ◌∷◌, ◌++◌, length, take, Bool, true, false, not, cond, ◌⊎◌, inl, inr, ⊎_elim, Some, sym, refl, ap, ◌∙◌, subst, arith, Contains}
use Rattle.std.specs.Prelude.{filter, slice_get, Option, None, is_some, MatchOption}
use Rattle.sx_grammar.proofs.FirstLaws.{take_seam, contains_at}
use Rattle.std.specs.Str.{bytes_eq}
use Rattle.std.proofs.lemmas.Bool.{false≢true}
use Rattle.std.proofs.lemmas.Slice.Eq.{bytes_eq-Decides}
use Rattle.sx_grammar.specs.Grammar.{Text}
use Rattle.sx_grammar.specs.Distinct.{distinct}
use Rattle.sx_grammar.proofs.Finding.{contains_place, filter_at}
use Rattle.std.proofs.lemmas.List.{take_all, append_assoc}
use Rattle.std.proofs.lemmas.List.Elements.{filter-append}

head_or_tail : (x : Text) (xs : List Text) (y : Text) → Contains (x ∷ xs) y → (x ≡ y) ⊎ Contains xs y
head_or_tail x xs y (zero, lt, e) = inl e
head_or_tail x xs y (suc k, lt, e) = inr (k, omega (arith, lt), e)

at_head : (x : Text) (xs : List Text) → Contains (x ∷ xs) x
at_head x xs = (0, omega arith, refl)

in_tail : (x : Text) (xs : List Text) (y : Text) → Contains xs y → Contains (x ∷ xs) y
in_tail x xs y (k, lt, e) = (suc k, omega (arith, lt), e)

filter_push : (p : Text → Bool) (xs : List Text) (x : Text) → filter p (xs ++ x ∷ []) ≡ filter p xs ++ cond (p x) (x ∷ []) []
filter_push p [] x = by_test (p x) refl
  where
    by_test : (b : Bool) → p x ≡ b → filter p (x ∷ []) ≡ cond (p x) (x ∷ []) []
    by_test true e = rw e refl
    by_test false e = rw e refl
filter_push p (y ∷ xs) x = at_first (p y) refl (filter_push p xs x)
  where
    at_first : (b : Bool) → p y ≡ b → filter p (xs ++ x ∷ []) ≡ filter p xs ++ cond (p x) (x ∷ []) [] → filter p (y ∷ (xs ++ x ∷ [])) ≡ filter p (y ∷ xs) ++ cond (p x) (x ∷ []) []
    at_first true e h = rw e (ap (λ t. y ∷ t) h)
    at_first false e h = rw e h

filter_comm : (p q : Text → Bool) (xs : List Text) → filter p (filter q xs) ≡ filter q (filter p xs)
filter_comm p q [] = refl
filter_comm p q (x ∷ xs) = both (p x) refl (q x) refl (filter_comm p q xs)
  where
    both : (a : Bool) → p x ≡ a → (b : Bool) → q x ≡ b → filter p (filter q xs) ≡ filter q (filter p xs) → filter p (filter q (x ∷ xs)) ≡ filter q (filter p (x ∷ xs))
    both true e true f h = rw f (rw e (rw f (ap (λ t. x ∷ t) h)))
    both true e false f h = rw e (rw f h)
    both false e true f h = rw f (rw e h)
    both false e false f h = rw (e, f) h

-- a text that is filtered out may be left out before
filter_absorbs : (p : Text → Bool) (x : Text) (xs : List Text) → p x ≡ false → filter p (distinct (xs ++ x ∷ [])) ≡ filter p (distinct xs)
filter_absorbs p x [] e = rw e refl
filter_absorbs p x (z ∷ xs) e = at_first (p z) refl (inner (λ y. not (bytes_eq z y)) (filter_absorbs p x xs e))
  where
    inner : (q : Text → Bool) → filter p (distinct (xs ++ x ∷ [])) ≡ filter p (distinct xs) → filter p (filter q (distinct (xs ++ x ∷ []))) ≡ filter p (filter q (distinct xs))
    inner q h = filter_comm p q (distinct (xs ++ x ∷ [])) ∙ ap (filter q) h ∙ filter_comm q p (distinct xs)

    at_first : (a : Bool) → p z ≡ a → filter p (filter (λ y. not (bytes_eq z y)) (distinct (xs ++ x ∷ []))) ≡ filter p (filter (λ y. not (bytes_eq z y)) (distinct xs))
        → filter p (distinct (z ∷ (xs ++ x ∷ []))) ≡ filter p (distinct (z ∷ xs))
    at_first true e h = rw e (ap (λ t. z ∷ t) h)
    at_first false e h = rw e h

apart : (y x : Text) → ¬ (y ≡ x) → not (bytes_eq y x) ≡ true
apart y x other = by_test (bytes_eq y x) refl
  where
    by_test : (b : Bool) → bytes_eq y x ≡ b → not b ≡ true
    by_test true e = absurd (other ((bytes_eq-Decides y x).0 e))
    by_test false e = refl

filter_has : (p : Text → Bool) (xs : List Text) (x : Text) → Contains xs x → p x ≡ true → Contains (filter p xs) x
filter_has p [] x has is = absurd (omega (arith, has.1))
filter_has p (y ∷ xs) x has is = at_first (p y) refl (λ there. filter_has p xs x there is)
  where
    at_first : (b : Bool) → p y ≡ b → (Contains xs x → Contains (filter p xs) x) → Contains (filter p (y ∷ xs)) x
    at_first true t rest = rw t (⊎_elim (λ same. subst (Contains (y ∷ filter p xs)) same (at_head y (filter p xs))) (λ there. in_tail y (filter p xs) x (rest there)) (head_or_tail y xs x has))
    at_first false t rest = rw t (⊎_elim (λ same. absurd (false≢true (sym t ∙ ap p same ∙ is))) rest (head_or_tail y xs x has))

pub distinct_new : (xs : List Text) (x : Text) → ¬ (Contains xs x) → distinct (xs ++ x ∷ []) ≡ distinct xs ++ x ∷ []
distinct_new [] x new = refl
distinct_new (y ∷ xs) x new =
    let test = apart y x (λ same. new (subst (Contains (y ∷ xs)) same (at_head y xs))) in
    let rest = distinct_new xs x (λ has. new (in_tail y xs x has)) in
    ap (λ t. y ∷ t) (ap (filter (λ z. not (bytes_eq y z))) rest ∙ filter_push (λ z. not (bytes_eq y z)) (distinct xs) x ∙ ap (λ b. filter (λ z. not (bytes_eq y z)) (distinct xs) ++ cond b (x ∷ []) []) test)

pub distinct_old : (xs : List Text) (x : Text) → Contains xs x → distinct (xs ++ x ∷ []) ≡ distinct xs
distinct_old [] x has = absurd (omega (arith, has.1))
distinct_old (y ∷ xs) x has = ⊎_elim
    (λ same. ap (λ t. y ∷ t) (filter_absorbs (λ z. not (bytes_eq y z)) x xs (ap not ((bytes_eq-Decides y x).1 same))))
    (λ there. ap (λ t. y ∷ filter (λ z. not (bytes_eq y z)) t) (distinct_old xs x there))
    (head_or_tail y xs x has)

pub distinct_has : (xs : List Text) (x : Text) → Contains xs x → ¬ (¬ (Contains (distinct xs) x))
distinct_has [] x has new = absurd (omega (arith, has.1))
distinct_has (y ∷ xs) x has new = ⊎_elim
    (λ same. new (subst (Contains (distinct (y ∷ xs))) same (at_head y (filter (λ z. not (bytes_eq y z)) (distinct xs)))))
    (λ there. distinct_has xs x there (λ old. new (in_tail y (filter (λ z. not (bytes_eq y z)) (distinct xs)) x (filter_has (λ z. not (bytes_eq y z)) (distinct xs) x old
    (apart y x (λ same. new (subst (Contains (distinct (y ∷ xs))) same (at_head y (filter (λ z. not (bytes_eq y z)) (distinct xs))))))))))
    (head_or_tail y xs x has)

pub distinct_from : (xs : List Text) (x : Text) → Contains (distinct xs) x → Contains xs x
distinct_from [] x has = has
distinct_from (y ∷ xs) x has = ⊎_elim
    (λ same. subst (Contains (y ∷ xs)) same (at_head y xs))
    (λ there. let place = contains_place (filter (λ z. not (bytes_eq y z)) (distinct xs)) x there in
    in_tail y xs x (distinct_from xs x (filter_at (λ z. not (bytes_eq y z)) (distinct xs) place.0 x place.1).0))
    (head_or_tail y (filter (λ z. not (bytes_eq y z)) (distinct xs)) x has)

-- a new text goes last
pub distinct_more : (xs : List Text) (x : Text) (known : List Text) (found : Option ℕ) → known ≡ distinct xs
    → MatchOption found (¬ (Contains known x)) (λ i. slice_get known i ≡ Some x) → is_some found ≡ false → known ++ x ∷ [] ≡ distinct (xs ++ x ∷ [])
distinct_more xs x known (Some i) same exact none = absurd (false≢true (sym none))
distinct_more xs x known None same exact none =
    ap (λ l. l ++ x ∷ []) same ∙ sym (distinct_new xs x (λ has. distinct_has xs x has (subst (λ l. ¬ (Contains l x)) same exact)))

-- an old one is left out
pub distinct_kept : (xs : List Text) (x : Text) (known : List Text) (found : Option ℕ) → known ≡ distinct xs
    → MatchOption found (¬ (Contains known x)) (λ i. slice_get known i ≡ Some x) → is_some found ≡ true → known ≡ distinct (xs ++ x ∷ [])
distinct_kept xs x known None same exact some = absurd (false≢true some)
distinct_kept xs x known (Some i) same exact some =
    same ∙ sym (distinct_old xs x (distinct_from xs x (subst (λ l. Contains l x) same (contains_at known i x exact))))

-- one text more of a list behind others
pub seam_behind : (start xs : List Text) (n : ℕ) (x : Text) → slice_get xs n ≡ Some x → start ++ take n xs ++ x ∷ [] ≡ start ++ take (n + 1) xs
seam_behind start xs n x at = append_assoc start (take n xs) (x ∷ []) ∙ ap (λ l. start ++ l) (sym (take_seam xs n x at))

pub distinct_all : (start xs : List Text) (n : ℕ) (out : List Text) → length xs ≤ n → out ≡ distinct (start ++ take n xs) → out ≡ distinct (start ++ xs)
distinct_all start xs n out whole same = same ∙ ap (λ l. distinct (start ++ l)) (take_all n xs whole)

-- the distinct texts of a list stand first among those of the list and more texts
pub distinct_goes_on : (xs ys : List Text) → (more : List Text) × (distinct (xs ++ ys) ≡ distinct xs ++ more)
distinct_goes_on [] ys = (distinct ys, refl)
distinct_goes_on (x ∷ xs) ys =
    let rest = distinct_goes_on xs ys in
    let others = λ (y : Text). not (bytes_eq x y) in
    (filter others rest.0, ap (λ l. x ∷ l) (ap (filter others) rest.1 ∙ filter-append others (distinct xs) rest.0))
