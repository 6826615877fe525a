-- Lists of distinct names.
use Rattle.std.proofs.Common.{◌≡◌, ℕ, ◌+◌, ◌≤◌, ◌⊎◌, inl, inr, List, [], ◌∷◌, ◌++◌, Bool, true, false, true≢false, Some, slice_get, Contains, length, length-append, arith, zero, suc, refl, ap, ◌∙◌, sym, if◌then◌else◌}
use Rattle.std.specs.List.{AllByRecursion, IsDistinct, list_any}
use Rattle.std.specs.Str.{bytes_eq}
use Rattle.std.specs.Cmp.Lexicographic.{nat_list_eq_equiv}
use Rattle.std.proofs.lemmas.Slice.Eq.{bytes_eq-Decides}
use Rattle.std.proofs.lemmas.Map.Views.{Contains-from_any, list_any-from_Contains}
use Rattle.std.proofs.lemmas.Map.Keys.{IsDistinct-head, IsDistinct-tail}
use Rattle.indexmap.specs.IndexSet.{insert_key}
use Rattle.sx_term.specs.Cutting.{AreDistinct}
use Rattle.sx_term.specs.Vars.{IsAdded}

same_name : (x y : List ℕ) → bytes_eq x y ≡ true → x ≡ y
same_name x y = (bytes_eq-Decides x y).0

-- the name is among the names exactly where the test finds it
not_among : (names : List (List ℕ)) (name : List ℕ) → list_any (bytes_eq name) names ≡ false → Contains names name → ⊥
not_among names name e h = true≢false (sym (list_any-from_Contains nat_list_eq_equiv name names h) ∙ e)

pub IsAdded-insert_key : (old new : List (List ℕ)) (name : List ℕ) (number : ℕ) (stored : List ℕ) → new ≡ insert_key bytes_eq old name → slice_get new number ≡ Some stored → bytes_eq name stored ≡ true → IsAdded old new name number
IsAdded-insert_key old new name number stored e s t = record {
  numbered = s ∙ ap Some (sym (same_name name stored t));
  list = by (list_any (bytes_eq name) old) refl;
}
  where
    by : (b : Bool) → list_any (bytes_eq name) old ≡ b → (Contains old name × (new ≡ old)) ⊎ (¬ (Contains old name) × (new ≡ old ++ name ∷ []))
    by true h = inl (Contains-from_any same_name name old h, e ∙ ap (λ b. if b then old else old ++ name ∷ []) h)
    by false h = inr (not_among old name h, e ∙ ap (λ b. if b then old else old ++ name ∷ []) h)

-- a name that differs from each of the names is none of them
apart : (x text : List ℕ) (xs : List (List ℕ)) (i : ℕ) → AllByRecursion (λ y. bytes_eq x y ≡ false) xs → slice_get xs i ≡ Some text → x ≡ text → ⊥
apart x text [] i all s e = cc
apart x text (y ∷ ys) zero all s e = let q : y ≡ text = cc in true≢false (sym ((bytes_eq-Decides x y).1 (e ∙ sym q)) ∙ all.0)
apart x text (y ∷ ys) (suc i) all s e = apart x text ys i all.1 s e

pub AreDistinct-from_IsDistinct : (xs : List (List ℕ)) → IsDistinct bytes_eq xs → AreDistinct xs
AreDistinct-from_IsDistinct [] h i j text a b = cc
AreDistinct-from_IsDistinct (x ∷ xs) h zero zero text a b = refl
AreDistinct-from_IsDistinct (x ∷ xs) h zero (suc j) text a b = absurd (apart x text xs j (IsDistinct-head bytes_eq x xs h) b (let q : x ≡ text = cc in q))
AreDistinct-from_IsDistinct (x ∷ xs) h (suc i) zero text a b = absurd (apart x text xs i (IsDistinct-head bytes_eq x xs h) a (let q : x ≡ text = cc in q))
AreDistinct-from_IsDistinct (x ∷ xs) h (suc i) (suc j) text a b = ap suc (AreDistinct-from_IsDistinct xs (IsDistinct-tail bytes_eq x xs h) i j text a b)

-- at most one name is added
pub length-insert_key : (old new : List (List ℕ)) (name : List ℕ) → new ≡ insert_key bytes_eq old name → length new ≤ length old + 1
length-insert_key old new name e = by (list_any (bytes_eq name) old) (ap length e)
  where
    by : (b : Bool) → length new ≡ length (if b then old else old ++ name ∷ []) → length new ≤ length old + 1
    by true h = omega arith
    by false h = omega (arith, length-append old (name ∷ []))
