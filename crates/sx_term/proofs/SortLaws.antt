-- Sorts of nodes and of rows of terms.
use Rattle.std.proofs.Common.{◌≡◌, ℕ, zero, suc, ◌+◌, ◌<◌, ◌≤◌, ◌↔◌, IsTrue, drop, length, get_or, Bool, true, false, List, [], ◌∷◌, refl, ap, ◌∙◌, sym, subst, arith, Some, None}
use Rattle.std.specs.Prelude.{slice_get}
use Rattle.std.proofs.lemmas.List.{at_drop_more}
use Rattle.sx_term.specs.declared.term.Term.{Term}
use Rattle.sx_term.specs.Tree.{Tree, Trees, node, ◌▹◌}
use Rattle.sx_term.specs.Term.{tree}
use Rattle.sx_term.proofs.Kids.{trees, trees-drop}
use Rattle.sx_term.specs.declared.sort.Sort.{Sort}
use Rattle.sx_term.specs.Sorts.{Shape, HasSort, KidsHaveSorts}

rest_within : (i m n : ℕ) → i < m → m ≡ n → i < n
rest_within i m n h e = omega arith

pub true_is_false : true ≡ false → ⊥
true_is_false e = cc

module _ (S : List Shape) (V : List Sort) where
  pub node_fits : (r : Bool) (t : Tree) (label : ℕ) (kids : Trees) (shape : Shape) (sort : Sort) → t ≡ node label kids → slice_get S label ≡ Some shape → shape.sort ≡ sort → (IsTrue r ↔ KidsHaveSorts S V kids shape.kids) → IsTrue r ↔ HasSort S V t sort
  node_fits r t label kids shape sort e f s k = (
    λ i. subst (λ (x : Tree). HasSort S V x sort) (sym e) (shape, f, s, k.0 i),
    λ h. let g : HasSort S V (node label kids) sort = subst (λ (x : Tree). HasSort S V x sort) e h in
        let q : Some g.0 ≡ Some shape = sym g.1 ∙ f in
        let p : g.0 ≡ shape = cc in
        k.1 (subst (λ (x : Shape). KidsHaveSorts S V kids x.kids) p g.3),
  )

  pub node_differs : (r : Bool) (t : Tree) (label : ℕ) (kids : Trees) (shape : Shape) (sort : Sort) → r ≡ false → t ≡ node label kids → slice_get S label ≡ Some shape → (shape.sort ≡ sort → ⊥) → IsTrue r ↔ HasSort S V t sort
  node_differs r t label kids shape sort w e f n = (
    λ i. let q : true ≡ false = sym i ∙ w in absurd (true_is_false q),
    λ h. let g : HasSort S V (node label kids) sort = subst (λ (x : Tree). HasSort S V x sort) e h in
        let q : Some g.0 ≡ Some shape = sym g.1 ∙ f in
        let p : g.0 ≡ shape = cc in
        absurd (n (sym (ap (λ x. x.sort) p) ∙ g.2)),
  )

  pub node_unknown : (r : Bool) (t : Tree) (label : ℕ) (kids : Trees) (sort : Sort) → r ≡ false → t ≡ node label kids → slice_get S label ≡ None → IsTrue r ↔ HasSort S V t sort
  node_unknown r t label kids sort w e f = (
    λ i. let q : true ≡ false = sym i ∙ w in absurd (true_is_false q),
    λ h. let g : HasSort S V (node label kids) sort = subst (λ (x : Tree). HasSort S V x sort) e h in
        let q : Some g.0 ≡ None = sym g.1 ∙ f in cc,
  )

  -- one term on
  pub kids_step : (ts : List Term) (sorts : List Sort) (i : ℕ) (t : Term) (d : Sort) → i < length ts → length ts ≡ length sorts → t ≡ get_or ts i t
      → KidsHaveSorts S V (trees (drop i ts)) (drop i sorts) ↔ (HasSort S V (tree t) (get_or sorts i d) × KidsHaveSorts S V (trees (drop (i + 1) ts)) (drop (i + 1) sorts))
  kids_step ts sorts i t d h l e =
      let a = trees-drop ts i t h e in
      let b = at_drop_more (λ x. x) sorts i d (rest_within i (length ts) (length sorts) h l) in (
        λ k. subst (λ (x : List Sort). KidsHaveSorts S V (tree t ▹ trees (drop (i + 1) ts)) x) b (subst (λ (x : Trees). KidsHaveSorts S V x (drop i sorts)) a k),
        λ k. subst (λ (x : Trees). KidsHaveSorts S V x (drop i sorts)) (sym a) (subst (λ (x : List Sort). KidsHaveSorts S V (tree t ▹ trees (drop (i + 1) ts)) x) (sym b) k),
      )

  pub kids_end : (ts : List Term) (sorts : List Sort) (i : ℕ) → length ts ≤ i → length ts ≡ length sorts → KidsHaveSorts S V (trees (drop i ts)) (drop i sorts)
  kids_end [] [] zero h l = tt
  kids_end [] [] (suc i) h l = tt
  kids_end [] (s ∷ sorts) i h l = absurd (omega arith)
  kids_end (t ∷ ts) [] i h l = absurd (omega arith)
  kids_end (t ∷ ts) (s ∷ sorts) zero h l = absurd (omega arith)
  kids_end (t ∷ ts) (s ∷ sorts) (suc i) h l = kids_end ts sorts i (omega arith) (omega arith)

  pub kids_length : (ts : List Term) (sorts : List Sort) → KidsHaveSorts S V (trees ts) sorts → length ts ≡ length sorts
  kids_length [] [] k = refl
  kids_length [] (s ∷ sorts) k = absurd k
  kids_length (t ∷ ts) [] k = absurd k
  kids_length (t ∷ ts) (s ∷ sorts) k = let l = kids_length ts sorts k.1 in omega arith

  pub kids_differ : (ts : List Term) (sorts : List Sort) (i : ℕ) (t : Term) (d : Sort) (r : Bool) → i < length ts → length ts ≡ length sorts → t ≡ get_or ts i t
      → (KidsHaveSorts S V (trees (drop i ts)) (drop i sorts) ↔ KidsHaveSorts S V (trees ts) sorts) → r ≡ false → (IsTrue r ↔ HasSort S V (tree t) (get_or sorts i d)) → IsTrue false ↔ KidsHaveSorts S V (trees ts) sorts
  kids_differ ts sorts i t d r h l e same w f = (
    λ x. let q : false ≡ true = x in absurd (true_is_false (sym q)),
    λ k. let g = (kids_step ts sorts i t d h l e).0 (same.1 k) in
        let q : r ≡ true = f.1 g.0 in
        absurd (true_is_false (sym q ∙ w)),
  )

  pub kids_more : (ts : List Term) (sorts : List Sort) (i : ℕ) (t : Term) (d : Sort) (r : Bool) → i < length ts → length ts ≡ length sorts → t ≡ get_or ts i t
      → (KidsHaveSorts S V (trees (drop i ts)) (drop i sorts) ↔ KidsHaveSorts S V (trees ts) sorts) → r ≡ true → (IsTrue r ↔ HasSort S V (tree t) (get_or sorts i d))
      → KidsHaveSorts S V (trees (drop (i + 1) ts)) (drop (i + 1) sorts) ↔ KidsHaveSorts S V (trees ts) sorts
  kids_more ts sorts i t d r h l e same w f = (
    λ k. same.0 ((kids_step ts sorts i t d h l e).1 (f.0 w, k)),
    λ k. ((kids_step ts sorts i t d h l e).0 (same.1 k)).1,
  )

  pub kids_all : (ts : List Term) (sorts : List Sort) (i : ℕ) → length ts ≤ i → length ts ≡ length sorts
      → (KidsHaveSorts S V (trees (drop i ts)) (drop i sorts) ↔ KidsHaveSorts S V (trees ts) sorts) → IsTrue true ↔ KidsHaveSorts S V (trees ts) sorts
  kids_all ts sorts i h l same = (λ x. same.0 (kids_end ts sorts i h l), λ k. refl)

  pub kids_unlike : (ts : List Term) (sorts : List Sort) → (length ts ≡ length sorts → ⊥) → IsTrue false ↔ KidsHaveSorts S V (trees ts) sorts
  kids_unlike ts sorts n = (λ x. let q : false ≡ true = x in absurd (true_is_false (sym q)), λ k. absurd (n (kids_length ts sorts k)))
