-- The names of the parts of a production.
use Rattle.std.proofs.Common.{◌≡◌, ℕ, zero, suc, ◌+◌, ◌≤◌, ◌<◌, Bool, true, false, IsTrue, ◌↔◌, List, [], ◌∷◌, ◌++◌, length, get_or, take, drop, sym, ap, subst, ◌∙◌, arith, Contains}
use Rattle.std.proofs.Common.{length-take-le}
use Rattle.std.proofs.lemmas.List.{take_more, take_all, drop_more}
use Rattle.std.proofs.lemmas.Bool.{false≢true}
use Rattle.sx_outline.specs.declared.places.Places.{Places}
use Rattle.sx_outline.specs.Declarations.{Declared}
use Rattle.sx_outline.specs.Fitting.{Kid, NamesFit}
use Rattle.sx_lines.specs.Distinct.{AreTextsDistinct}
use Rattle.sx_outline.specs.Tables.{ArePlaces}
use Rattle.sx_outline.proofs.KeptLaws.{distinct_push}

-- ---- names that stand once

seen_twice : (names : List (List ℕ)) (i : ℕ) (name : List ℕ) → i < length names → name ≡ get_or names i name → Contains (take i names) name → AreTextsDistinct names → ⊥
seen_twice names zero name low is there h = omega (arith, there.1)
seen_twice [] (suc i) name low is there h = omega (arith, low)
seen_twice (x ∷ names) (suc i) name low is (zero, lt, e) h = h.0 (subst (Contains names) (sym e) (i, omega (arith, low), sym is))
seen_twice (x ∷ names) (suc i) name low is (suc k, lt, e) h = seen_twice names i name (omega (arith, low)) is (k, omega (arith, lt), e) h.1

front_again : (names : List (List ℕ)) (i : ℕ) → i < length names → take i (take i names) ≡ take i names
front_again names i low =
    let size : length (take i names) ≡ i = length-take-le i names (omega (arith, low)) in
    take_all i (take i names) (omega (arith, size))

-- a name that stands before it stands twice
pub not_distinct : (names : List (List ℕ)) (i : ℕ) (name : List ℕ) (b : Bool) → i < length names → name ≡ get_or names i name → IsTrue b ↔ Contains (take i (take i names)) name → b ≡ true
    → IsTrue false ↔ AreTextsDistinct names
not_distinct names i name b low is before t =
    ((λ f. absurd (false≢true f)), λ h. absurd (seen_twice names i name low is (subst (λ (x : List (List ℕ)). Contains x name) (front_again names i low) (before.0 t)) h))

-- one more name
pub texts_more : (names : List (List ℕ)) (i : ℕ) (name : List ℕ) (old new : Places) → i < length names → name ≡ get_or names i name → ArePlaces (take i names) old
    → ((xs : List (List ℕ)) → ArePlaces xs old → i ≡ length xs → ArePlaces (xs ++ name ∷ []) new) → ArePlaces (take (i + 1) names) new
texts_more names i name old new low is so_far push =
    let size : i ≡ length (take i names) = sym (length-take-le i names (omega (arith, low))) in
    let more : take (i + 1) names ≡ take i names ++ name ∷ [] = take_more names i name low ∙ ap (λ y. take i names ++ y ∷ []) (sym is) in
    subst (λ (x : List (List ℕ)). ArePlaces x new) (sym more) (push (take i names) so_far size)

pub texts_all : (names : List (List ℕ)) (i : ℕ) (places : Places) → length names ≤ i → ArePlaces (take i names) places → ArePlaces names places
texts_all names i places le h = subst (λ (x : List (List ℕ)). ArePlaces x places) (take_all i names le) h

pub distinct_more : (names : List (List ℕ)) (i : ℕ) (name : List ℕ) (old new : Places) (b : Bool) → i < length names → name ≡ get_or names i name → ArePlaces (take i names) old × AreTextsDistinct (take i names)
    → IsTrue b ↔ Contains (take i (take i names)) name → b ≡ false → ((xs : List (List ℕ)) → ArePlaces xs old → i ≡ length xs → ArePlaces (xs ++ name ∷ []) new)
    → ArePlaces (take (i + 1) names) new × AreTextsDistinct (take (i + 1) names)
distinct_more names i name old new b low is so_far before f push =
    let more : take (i + 1) names ≡ take i names ++ name ∷ [] = take_more names i name low ∙ ap (λ y. take i names ++ y ∷ []) (sym is) in (
      texts_more names i name old new low is so_far.0 push,
      subst AreTextsDistinct (sym more) (distinct_push (take i names) name so_far.1
          (λ there. false≢true (sym f ∙ before.1 (subst (λ (x : List (List ℕ)). Contains x name) (sym (front_again names i low)) there)))),
    )

-- ---- names and parts

-- a name without a part
pub names_left : (d : Declared) (names : List (List ℕ)) (i : ℕ) (kids : List Kid) (X : Type 0) → i < length names → kids ≡ [] → NamesFit d (drop i names) kids ↔ X → IsTrue false ↔ X
names_left d names i kids X low e h = ((λ t. absurd (false≢true t)), λ x. absurd (by (h.1 x)))
  where
    by : NamesFit d (drop i names) kids → ⊥
    by k = subst (λ (l : List (List ℕ)). NamesFit d l []) (drop_more names i [] low) (subst (NamesFit d (drop i names)) e k)
