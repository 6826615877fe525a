-- The first of a list with a property.
use Rattle.std.proofs.Common.{◌≡◌, ℕ, zero, suc, ◌+◌, ◌<◌, ◌≤◌, List, [], ◌∷◌, ◌++◌, length, take, drop, get_or, true, false, not, ◌⊎◌, inl, inr, ⊎_elim, Some, sym, refl, ap, ◌∙◌, subst, arith, Contains, add-one}
use Rattle.std.specs.Borrow.{Bor}
use Rattle.std.specs.Prelude.{slice_get, None, Option, option_map, is_some, is_none, MatchOption}
use Rattle.std.proofs.lemmas.Option.{slice_get-map, slice_get_read, slice_get_within, get_or_from_slice_get}
use Rattle.std.proofs.lemmas.Bool.{false≢true}
use Rattle.std.proofs.lemmas.List.{take_all, length-map}
use Rattle.std.proofs.lemmas.List.Elements.{Contains-push_cases}
use Rattle.sx_term.specs.Cutting.{AreDistinct}
use Rattle.sx_grammar.specs.Grammar.{Text}
use Rattle.sx_grammar.specs.Parts.{texts}
use Rattle.sx_grammar.specs.Made.{IsFirstWith, HasNone, IsFirstAgain, IsLexical, IsUnknownSort}

-- what stands before an element, the element, and what stands after it
pub seam : {X : Type 0} (xs : List X) (i : ℕ) (x : X) → slice_get xs i ≡ Some x → xs ≡ take i xs ++ x ∷ drop (suc i) xs
seam [] i x e = let clash : None ≡ Some x = e in cc
seam (y ∷ xs) zero x e = let same : y ≡ x = cc in ap (λ z. z ∷ xs) same
seam (y ∷ xs) (suc i) x e = ap (λ z. y ∷ z) (seam xs i x e)

pub take_seam : {X : Type 0} (xs : List X) (i : ℕ) (x : X) → slice_get xs i ≡ Some x → take (i + 1) xs ≡ take i xs ++ x ∷ []
take_seam xs i x e = simp add-one (seams xs i x e)
  where
    seams : {X : Type 0} (xs : List X) (i : ℕ) (x : X) → slice_get xs i ≡ Some x → take (suc i) xs ≡ take i xs ++ x ∷ []
    seams [] i x e = let clash : None ≡ Some x = e in cc
    seams (y ∷ xs) zero x e = let same : y ≡ x = cc in ap (λ z. z ∷ []) same
    seams (y ∷ xs) (suc i) x e = ap (λ z. y ∷ z) (seams xs i x e)

pub none_in_none : {X : Type 0} (P : X → Type 0) (xs : List X) → HasNone P (take 0 xs)
none_in_none P xs x has = absurd (omega (arith, has.1))

pub none_more : {X : Type 0} (P : X → Type 0) (xs : List X) (i : ℕ) (x : X) → slice_get xs i ≡ Some x → HasNone P (take i xs) → ¬ (P x) → HasNone P (take (i + 1) xs)
none_more P xs i x at none not y has is =
    ⊎_elim (λ before. none y before is) (λ same. not (subst P (sym same) is)) (Contains-push_cases (take i xs) x y (subst (λ l. Contains l y) (take_seam xs i x at) has))

pub none_all : {X : Type 0} (P : X → Type 0) (xs : List X) (i : ℕ) → length xs ≤ i → HasNone P (take i xs) → HasNone P xs
none_all P xs i whole none = subst (HasNone P) (take_all i xs whole) none

pub first_here : {X : Type 0} (P : X → Type 0) (xs : List X) (i : ℕ) (x : X) → slice_get xs i ≡ Some x → HasNone P (take i xs) → P x → IsFirstWith P xs x
first_here P xs i x at none is = (take i xs, drop (suc i) xs, seam xs i x at, is, none)

pub text_at : (refs : List (Bor Text)) (i : ℕ) (r : Bor Text) → i < length refs → r ≡ get_or refs i r → slice_get (texts refs) i ≡ Some r.now
text_at refs i r lt is = slice_get-map (λ t. t.now) refs i ∙ ap (option_map (λ t. t.now)) (slice_get_read refs (length refs) i r refl lt is)

pub texts_length : (refs : List (Bor Text)) → length (texts refs) ≡ length refs
texts_length refs = length-map refs (λ t. t.now)

pub slice_get_push : {X : Type 0} (xs : List X) (x : X) (i : ℕ) (y : X) → slice_get (xs ++ x ∷ []) i ≡ Some y → (slice_get xs i ≡ Some y) ⊎ ((i ≡ length xs) × (x ≡ y))
slice_get_push [] x zero y e = inr (refl, (let h : x ≡ y = cc in h))
slice_get_push [] x (suc i) y e = let clash : None ≡ Some y = e in cc
slice_get_push (z ∷ xs) x zero y e = inl e
slice_get_push (z ∷ xs) x (suc i) y e = ⊎_elim (λ h. inl h) (λ h. inr (ap suc h.0, h.1)) (slice_get_push xs x i y e)

pub contains_at : (xs : List Text) (i : ℕ) (x : Text) → slice_get xs i ≡ Some x → Contains xs x
contains_at xs i x e = (i, slice_get_within xs i x e, get_or_from_slice_get xs i x x e)

-- distinct texts and one that is not among them are distinct
pub distinct_push : (xs : List Text) (x : Text) → AreDistinct xs → ¬ (Contains xs x) → AreDistinct (xs ++ x ∷ [])
distinct_push xs x distinct new i j text a b =
    ⊎_elim
    (λ p. ⊎_elim (λ q. distinct i j text p q) (λ q. absurd (new (subst (Contains xs) (sym q.1) (contains_at xs i text p)))) (slice_get_push xs x j text b))
    (λ p. ⊎_elim (λ q. absurd (new (subst (Contains xs) (sym p.1) (contains_at xs j text q)))) (λ q. p.0 ∙ sym q.0) (slice_get_push xs x j text b))
    (slice_get_push xs x i text a)

pub again_here : (xs : List Text) (n : ℕ) (x : Text) (names : List Text) (found : Option ℕ) → names ≡ take n xs → AreDistinct names → slice_get xs n ≡ Some x
    → MatchOption found (¬ (Contains names x)) (λ i. slice_get names i ≡ Some x) → is_some found ≡ true → IsFirstAgain xs x
again_here xs n x names None same distinct at exact some = absurd (false≢true some)
again_here xs n x names (Some i) same distinct at exact some =
    (take n xs, drop (suc n) xs, seam xs n x at, subst (λ l. Contains l x) same (contains_at names i x exact), subst AreDistinct same distinct)

pub new_here : (x : Text) (names : List Text) (found : Option ℕ) → MatchOption found (¬ (Contains names x)) (λ i. slice_get names i ≡ Some x) → is_some found ≡ false → ¬ (Contains names x)
new_here x names None exact some = exact
new_here x names (Some i) exact some = absurd (false≢true (sym some))

-- where the name is not that of a lexical sort, it is unknown exactly if none is found
pub unknown_if : (names : List Text) (t : Text) (found : Option ℕ) → MatchOption found (¬ (Contains names t)) (λ i. slice_get names i ≡ Some t) → ¬ (IsLexical t)
    → (is_none found ≡ true → IsUnknownSort names t) × (IsUnknownSort names t → is_none found ≡ true)
unknown_if names t None exact plain = (λ _. inl exact, λ _. refl)
unknown_if names t (Some i) exact plain =
    (λ none. absurd (false≢true none), λ unknown. ⊎_elim (λ new. absurd (new (contains_at names i t exact))) (λ lexical. absurd (plain lexical)) unknown)
