-- Names that are copied one by one.
use Rattle.std.proofs.Common.{◌≡◌, ℕ, zero, suc, ◌+◌, ◌<◌, ◌≤◌, ◌⊎◌, List, [], ◌∷◌, ◌++◌, length, take, get_or, map, Some, Contains, inl, inr, refl, ap, ◌∙◌, sym, subst, arith}
use Rattle.std.specs.Prelude.{slice_get, option_map}
use Rattle.std.proofs.lemmas.Option.{none-some, slice_get-map, slice_get_read}
use Rattle.sx_term.specs.Cutting.{AreDistinct as AreOnce}
use Rattle.sx_term.specs.Vars.{IsAdded}
use Rattle.sx_grammar.specs.Grammar.{Text}
use Rattle.sx_grammar.proofs.Finding.{at_contains}
use Rattle.sx_lines.specs.Distinct.{AreTextsDistinct}
use Rattle.sx_term.proofs.VarCopies.{copied_more}

some_head : {X : Type 0} (x y : X) → Some x ≡ Some y → x ≡ y
some_head x y e = cc

-- texts of which none stands twice stand at one place each
pub once : (ns : List Text) → AreTextsDistinct ns → AreOnce ns
once [] h i j t e k = absurd (none-some t e)
once (n ∷ ns) h zero zero t e k = refl
once (n ∷ ns) h zero (suc j) t e k = absurd (h.0 (subst (λ (x : Text). Contains ns x) (sym (some_head n t e)) (at_contains ns j t k)))
once (n ∷ ns) h (suc i) zero t e k = absurd (h.0 (subst (λ (x : Text). Contains ns x) (sym (some_head n t k)) (at_contains ns i t e)))
once (n ∷ ns) h (suc i) (suc j) t e k = ap suc (once ns h.1 i j t e k)

pub read_at : {X : Type 0} (xs : List X) (i : ℕ) (x : X) → i < length xs → x ≡ get_or xs i x → slice_get xs i ≡ Some x
read_at xs i x low is = slice_get_read xs (length xs) i x refl low is

-- a name is copied
pub one_name : (names now new : List Text) (i : ℕ) (x y : Text) (number : ℕ) → AreOnce names → now ≡ take i names → i < length names → x ≡ get_or names i x → y ≡ x → IsAdded now new y number →
    new ≡ take (i + 1) names
one_name names now new i x y number distinct is low at same added =
    copied_more names now new i x number distinct is (read_at names i x low at) (subst (λ (t : Text). IsAdded now new t number) same added)

-- a label is copied
pub one_label : {X : Type 0} (f : X → Text) (xs : List X) (now new : List Text) (i : ℕ) (x : X) (y : Text) (number : ℕ) → AreOnce (map f xs) → now ≡ take i (map f xs) → i < length xs → x ≡ get_or xs i x → y ≡ f x →
    IsAdded now new y number → new ≡ take (i + 1) (map f xs)
one_label f xs now new i x y number distinct is low at same added =
    copied_more (map f xs) now new i (f x) number distinct is (slice_get-map f xs i ∙ ap (option_map f) (read_at xs i x low at)) (subst (λ (t : Text). IsAdded now new t number) same added)

-- the first so many are all
pub all_taken : (names : List Text) (i : ℕ) → length names ≤ i → take i names ≡ names
all_taken [] zero h = refl
all_taken [] (suc i) h = refl
all_taken (n ∷ ns) zero h = absurd (omega (arith, h))
all_taken (n ∷ ns) (suc i) h = ap (λ (x : List Text). n ∷ x) (all_taken ns i (omega (arith, h)))

pub take_short : (names : List Text) (i : ℕ) → length (take i names) ≤ i
take_short [] zero = omega arith
take_short [] (suc i) = omega arith
take_short (n ∷ ns) zero = omega arith
take_short (n ∷ ns) (suc i) = let h = take_short ns i in omega (arith, h)

-- a name that is there is found
pub found_there : (old new : List Text) (name : Text) (number : ℕ) → Contains old name → IsAdded old new name number → (slice_get old number ≡ Some name) × (new ≡ old)
found_there old new name number has added = by added.list
  where
    by : (Contains old name × (new ≡ old)) ⊎ ((Contains old name → ⊥) × (new ≡ old ++ name ∷ [])) → (slice_get old number ≡ Some name) × (new ≡ old)
    by (inl h) = (ap (λ (l : List Text). slice_get l number) (sym h.1) ∙ added.numbered, h.1)
    by (inr h) = absurd (h.0 has)
