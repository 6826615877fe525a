-- Rows of terms and of premises.
use Rattle.std.proofs.Common.{◌≡◌, ℕ, zero, suc, ◌+◌, ◌<◌, ◌≤◌, ◌↔◌, IsTrue, drop, length, get_or, map, Bool, true, false, List, [], ◌∷◌, refl, ap, ◌∙◌, sym, subst, arith}
use Rattle.std.proofs.lemmas.List.{at_drop_more, at_drop_all, get_or-map, length-map}
use Rattle.sx_term.specs.declared.lex_kind.LexKind.{LexKind}
use Rattle.sx_term.specs.declared.lex_kind.LexKind.TheVariants.{Id, Num, Str}
use Rattle.sx_term.specs.declared.term.Term.{Term}
use Rattle.sx_term.specs.Tree.{Tree}
use Rattle.sx_term.specs.Term.{tree}
use Rattle.sx_term.proofs.Kids.{trees}
use Rattle.sx_term.specs.declared.sort.Sort.{Sort}
use Rattle.sx_term.specs.declared.sort.Sort.TheVariants.{Lex}
use Rattle.sx_rules.specs.declared.rule.Place.{Place}
use Rattle.sx_rules.specs.declared.rule.Premise.{Premise as PremiseOf}
use Rattle.sx_term.specs.Sorts.{Shape, HasSort, KidsHaveSorts, HaveSorts}
use Rattle.sx_rules.specs.Views.{FormData, premise}
use Rattle.sx_rules.specs.Deep.{PremiseIsShallow, PremisesAreShallow}
use Rattle.sx_rules.specs.Fits.{AreOfOneKind, PremiseFits, PremisesFit}
use Rattle.sx_term.proofs.SortLaws.{true_is_false, kids_differ, kids_more, kids_all, kids_unlike}

-- one item on, and no item
pub map_drop : {A B : Type 0} (f : A → B) (xs : List A) (i : ℕ) (x : A) → i < length xs → x ≡ get_or xs i x → map f (drop i xs) ≡ f x ∷ map f (drop (i + 1) xs)
map_drop f xs i x h e = at_drop_more (map f) xs i x h ∙ ap (λ y. f y ∷ map f (drop (i + 1) xs)) (sym e)

pub map_drop_all : {A B : Type 0} (f : A → B) (xs : List A) (i : ℕ) → length xs ≤ i → map f (drop i xs) ≡ []
map_drop_all f xs i h = at_drop_all (map f) xs i h

abbrev pub place_sorts : List Place → List Sort
place_sorts ps = map (λ p. p.sort) ps

within : (i m n : ℕ) → i < m → m ≡ n → i < n
within i m n h e = omega arith

module _ (S : List Shape) (V : List Sort) where
  pub row_to_kids : (ts : List Term) (sorts : List Sort) → HaveSorts S V (map tree ts) sorts → KidsHaveSorts S V (trees ts) sorts
  row_to_kids [] [] h = tt
  row_to_kids [] (s ∷ sorts) h = absurd h
  row_to_kids (t ∷ ts) [] h = absurd h
  row_to_kids (t ∷ ts) (s ∷ sorts) h = (h.0, row_to_kids ts sorts h.1)

  pub kids_to_row : (ts : List Term) (sorts : List Sort) → KidsHaveSorts S V (trees ts) sorts → HaveSorts S V (map tree ts) sorts
  kids_to_row [] [] h = tt
  kids_to_row [] (s ∷ sorts) h = absurd h
  kids_to_row (t ∷ ts) [] h = absurd h
  kids_to_row (t ∷ ts) (s ∷ sorts) h = (h.0, kids_to_row ts sorts h.1)

  pub as_row : (r : Bool) (ts : List Term) (sorts : List Sort) → (IsTrue r ↔ KidsHaveSorts S V (trees ts) sorts) → IsTrue r ↔ HaveSorts S V (map tree ts) sorts
  as_row r ts sorts h = (λ i. kids_to_row ts sorts (h.0 i), λ k. h.1 (row_to_kids ts sorts k))

  long_sorts : (ts : List Term) (ps : List Place) → length ts ≡ length ps → length ts ≡ length (place_sorts ps)
  long_sorts ts ps l = simp length-map l

  sort_of : (r : Bool) (t : Tree) (ps : List Place) (i : ℕ) (d : Place) → i < length ps → (IsTrue r ↔ HasSort S V t (get_or ps i d).sort) → IsTrue r ↔ HasSort S V t (get_or (place_sorts ps) i d.sort)
  sort_of r t ps i d h f = subst (λ (x : Sort). IsTrue r ↔ HasSort S V t x) (sym (get_or-map (λ p. p.sort) ps i d d.sort h)) f

  pub row_differs : (ts : List Term) (ps : List Place) (i : ℕ) (t : Term) (d : Place) (r : Bool) → i < length ts → length ts ≡ length ps → t ≡ get_or ts i t
      → (KidsHaveSorts S V (trees (drop i ts)) (drop i (place_sorts ps)) ↔ KidsHaveSorts S V (trees ts) (place_sorts ps)) → r ≡ false → (IsTrue r ↔ HasSort S V (tree t) (get_or ps i d).sort) → IsTrue false ↔ HaveSorts S V (map tree ts) (place_sorts ps)
  row_differs ts ps i t d r h l e same w f =
      as_row false ts (place_sorts ps) (kids_differ S V ts (place_sorts ps) i t d.sort r h (long_sorts ts ps l) e same w (sort_of r (tree t) ps i d (within i (length ts) (length ps) h l) f))

  pub row_more : (ts : List Term) (ps : List Place) (i : ℕ) (t : Term) (d : Place) (r : Bool) → i < length ts → length ts ≡ length ps → t ≡ get_or ts i t
      → (KidsHaveSorts S V (trees (drop i ts)) (drop i (place_sorts ps)) ↔ KidsHaveSorts S V (trees ts) (place_sorts ps)) → r ≡ true → (IsTrue r ↔ HasSort S V (tree t) (get_or ps i d).sort)
      → KidsHaveSorts S V (trees (drop (i + 1) ts)) (drop (i + 1) (place_sorts ps)) ↔ KidsHaveSorts S V (trees ts) (place_sorts ps)
  row_more ts ps i t d r h l e same w f =
      kids_more S V ts (place_sorts ps) i t d.sort r h (long_sorts ts ps l) e same w (sort_of r (tree t) ps i d (within i (length ts) (length ps) h l) f)

  pub row_all : (ts : List Term) (ps : List Place) (i : ℕ) → length ts ≤ i → length ts ≡ length ps
      → (KidsHaveSorts S V (trees (drop i ts)) (drop i (place_sorts ps)) ↔ KidsHaveSorts S V (trees ts) (place_sorts ps)) → IsTrue true ↔ HaveSorts S V (map tree ts) (place_sorts ps)
  row_all ts ps i h l same = as_row true ts (place_sorts ps) (kids_all S V ts (place_sorts ps) i h (long_sorts ts ps l) same)

  pub row_unlike : (ts : List Term) (ps : List Place) → (length ts ≡ length ps → ⊥) → IsTrue false ↔ HaveSorts S V (map tree ts) (place_sorts ps)
  row_unlike ts ps n = as_row false ts (place_sorts ps) (kids_unlike S V ts (place_sorts ps) (λ e. n (let q : length (place_sorts ps) ≡ length ps = simp length-map in e ∙ q)))

  pub one_kind : (x y z : Bool) (t u : Tree)
      → (IsTrue x ↔ (HasSort S V t (Lex Id) × HasSort S V u (Lex Id)))
      → (IsTrue y ↔ (HasSort S V t (Lex Num) × HasSort S V u (Lex Num)))
      → (IsTrue z ↔ (HasSort S V t (Lex Str) × HasSort S V u (Lex Str)))
      → x ≡ false → y ≡ false → IsTrue z ↔ AreOfOneKind S V t u
  one_kind x y z t u f g h p q = (λ i. (Str, (h.0 i).0, (h.0 i).1), λ k. which k.0 k.1 k.2)
    where
      which : (kind : LexKind) → HasSort S V t (Lex kind) → HasSort S V u (Lex kind) → IsTrue z
      which Id a b = let e : x ≡ true = f.1 (a, b) in absurd (true_is_false (sym e ∙ p))
      which Num a b = let e : y ≡ true = g.1 (a, b) in absurd (true_is_false (sym e ∙ q))
      which Str a b = h.1 (a, b)

  pub of_kind : (kind : LexKind) (x : Bool) (t u : Tree) → x ≡ true → (IsTrue x ↔ (HasSort S V t (Lex kind) × HasSort S V u (Lex kind))) → IsTrue true ↔ AreOfOneKind S V t u
  of_kind kind x t u p f = (λ i. (kind, (f.0 p).0, (f.0 p).1), λ k. refl)

module _ (S : List Shape) (F : List FormData) (V : List Sort) where
  premises_step : (ps : List PremiseOf) (i : ℕ) (p : PremiseOf) → i < length ps → p ≡ get_or ps i p → PremisesFit S F V (map premise (drop i ps)) ↔ (PremiseFits S F V (premise p) × PremisesFit S F V (map premise (drop (i + 1) ps)))
  premises_step ps i p h e =
      let a = map_drop premise ps i p h e in
      (λ k. subst (PremisesFit S F V) a k, λ k. subst (PremisesFit S F V) (sym a) k)

  pub premises_differ : (ps : List PremiseOf) (i : ℕ) (p : PremiseOf) (r : Bool) → i < length ps → p ≡ get_or ps i p → (PremisesFit S F V (map premise (drop i ps)) ↔ PremisesFit S F V (map premise ps)) → r ≡ false → (IsTrue r ↔ PremiseFits S F V (premise p)) → IsTrue false ↔ PremisesFit S F V (map premise ps)
  premises_differ ps i p r h e same w f = (
    λ x. let q : false ≡ true = x in absurd (true_is_false (sym q)),
    λ k. let g = (premises_step ps i p h e).0 (same.1 k) in
        let q : r ≡ true = f.1 g.0 in
        absurd (true_is_false (sym q ∙ w)),
  )

  pub premises_more : (ps : List PremiseOf) (i : ℕ) (p : PremiseOf) (r : Bool) → i < length ps → p ≡ get_or ps i p → (PremisesFit S F V (map premise (drop i ps)) ↔ PremisesFit S F V (map premise ps)) → r ≡ true → (IsTrue r ↔ PremiseFits S F V (premise p)) → PremisesFit S F V (map premise (drop (i + 1) ps)) ↔ PremisesFit S F V (map premise ps)
  premises_more ps i p r h e same w f = (
    λ k. same.0 ((premises_step ps i p h e).1 (f.0 w, k)),
    λ k. ((premises_step ps i p h e).0 (same.1 k)).1,
  )

  pub premises_all : (ps : List PremiseOf) (i : ℕ) → length ps ≤ i → (PremisesFit S F V (map premise (drop i ps)) ↔ PremisesFit S F V (map premise ps)) → IsTrue true ↔ PremisesFit S F V (map premise ps)
  premises_all ps i h same = (λ x. same.0 (subst (PremisesFit S F V) (sym (map_drop_all premise ps i h)) tt), λ k. refl)

pub premise_shallow_at : (ps : List PremiseOf) (i : ℕ) (p : PremiseOf) → PremisesAreShallow (map premise ps) → i < length ps → p ≡ get_or ps i p → PremiseIsShallow (premise p)
premise_shallow_at [] i p s h e = absurd (omega arith)
premise_shallow_at (u ∷ ps) zero p s h e = subst (λ (x : PremiseOf). PremiseIsShallow (premise x)) (sym e) s.0
premise_shallow_at (u ∷ ps) (suc i) p s h e = premise_shallow_at ps i p s.1 (omega arith) e
