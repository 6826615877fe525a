-- The typed syntax that an extension itself adds.
use Rattle.std.proofs.Common.{◌≡◌, ℕ, ◌+◌, ◌<◌, ◌≤◌, ◌↔◌, IsTrue, Bool, true, false, List, inl, inr, map, drop, length, get_or, Some, Vec, refl, sym, ap, ◌∙◌, subst, arith}
use Rattle.std.specs.Prelude.{slice_get, option_map}
use Rattle.std.specs.declared.alloc.Global.{Global}
use Rattle.std.proofs.lemmas.Option.{slice_get-map, slice_get_read, slice_get_within}
use Rattle.sx_term.specs.declared.con.Con.{Con}
use Rattle.sx_term.specs.declared.sort.Sort.TheVariants.{Typed}
use Rattle.sx_term.specs.declared.term.Term.{Term, Node}
use Rattle.sx_term.specs.Tree.{Tree, Trees, node}
use Rattle.sx_term.specs.Term.{tree}
use Rattle.sx_term.specs.Sorts.{Shape}
use Rattle.sx_term.specs.Shapes.{shape}
use Rattle.sx_term.proofs.Kids.{trees, tree-at_node, trees-drop, trees-drop_all}
use Rattle.sx_extension.specs.OwnSyntax.{IsOwnLabel, HasOwn, HaveOwn}
use Rattle.sx_extension.proofs.Lacking.{as_many}

never : {P : Type 0} → (P → ⊥) → IsTrue false ↔ P
never n = (λ t. let e : false ≡ true = t in cc, λ p. absurd (n p))

always : {P : Type 0} → P → IsTrue true ↔ P
always p = (λ t. p, λ q. refl)

-- a constructor of a row
module _ (cons : List Con) (first label : ℕ) where
  pub before_own : label < first → IsTrue false ↔ IsOwnLabel (map shape cons) first label
  before_own l = never (λ o. let m = o.0 in absurd (omega (arith, l, m)))

  pub past_own : length cons ≤ label → IsTrue false ↔ IsOwnLabel (map shape cons) first label
  past_own l = never (λ o.
      let m = slice_get_within (map shape cons) label o.1.0 o.1.1 in
      let n = as_many cons in
      absurd (omega (arith, l, m, n)))

  pub own_at : (c : Con) (b : Bool) → first ≤ label → label < length cons → c ≡ get_or cons label c → (IsTrue b ↔ ((k : ℕ) × (c.sort ≡ Typed k))) → IsTrue b ↔ IsOwnLabel (map shape cons) first label
  own_at c b low h e same =
      let at : slice_get (map shape cons) label ≡ Some (shape c) = slice_get-map shape cons label ∙ ap (option_map shape) (slice_get_read cons (length cons) label c refl h e) in (
        λ t. (low, (shape c, at, same.0 t)),
        λ o. same.1 (let q : Some o.1.0 ≡ Some (shape c) = sym o.1.1 ∙ at in let r : o.1.0 ≡ shape c = cc in subst (λ (s : Shape). (k : ℕ) × (s.sort ≡ Typed k)) r o.1.2),
      )

-- the kids of a node
module _ (shapes : List Shape) (first : ℕ) (t : Term) (label : ℕ) (kids : Vec Term Global) (e : t ≡ Node label kids) where
  at_node : HasOwn shapes first (node label (trees kids.items)) → HasOwn shapes first (tree t)
  at_node h = subst (λ (x : Tree). HasOwn shapes first x) (sym (tree-at_node t label kids e)) h

  of_node : HasOwn shapes first (tree t) → HasOwn shapes first (node label (trees kids.items))
  of_node h = subst (λ (x : Tree). HasOwn shapes first x) (tree-at_node t label kids e) h

  pub own_label : (b : Bool) → b ≡ true → (IsTrue b ↔ IsOwnLabel shapes first label) → IsTrue true ↔ HasOwn shapes first (tree t)
  own_label b y same = always (at_node (inl (same.0 y)))

  module _ (ts : List Term) (s : ts ≡ kids.items) where
    pub own_kid : (i : ℕ) (k : Term) (b : Bool) → i < length ts → k ≡ get_or ts i k → b ≡ true → (IsTrue b ↔ HasOwn shapes first (tree k)) →
        (HaveOwn shapes first (trees (drop i ts)) ↔ HaveOwn shapes first (trees ts)) → IsTrue true ↔ HasOwn shapes first (tree t)
    own_kid i k b h g y same so =
        always (at_node (inr (subst (λ (x : List Term). HaveOwn shapes first (trees x)) s
        (so.0 (subst (λ (x : Trees). HaveOwn shapes first x) (sym (trees-drop ts i k h g)) (inl (same.0 y)))))))

    pub own_on : (i : ℕ) (k : Term) (b : Bool) → i < length ts → k ≡ get_or ts i k → b ≡ false → (IsTrue b ↔ HasOwn shapes first (tree k)) →
        (HaveOwn shapes first (trees (drop i ts)) ↔ HaveOwn shapes first (trees ts)) → HaveOwn shapes first (trees (drop (i + 1) ts)) ↔ HaveOwn shapes first (trees ts)
    own_on i k b h g n same so = (
      λ x. so.0 (subst (λ (y : Trees). HaveOwn shapes first y) (sym (trees-drop ts i k h g)) (inr x)),
      λ x. elim (subst (λ (y : Trees). HaveOwn shapes first y) (trees-drop ts i k h g) (so.1 x)) [
        | inl o ↦ absurd (let y : b ≡ true = same.1 o in let e : true ≡ false = sym y ∙ n in cc)
        | inr o ↦ o
      ],
    )

    pub none_own : (b : Bool) (i : ℕ) → b ≡ false → (IsTrue b ↔ IsOwnLabel shapes first label) → length ts ≤ i → (HaveOwn shapes first (trees (drop i ts)) ↔ HaveOwn shapes first (trees ts)) →
        IsTrue false ↔ HasOwn shapes first (tree t)
    none_own b i n same l so = never (λ h. elim (of_node h) [
      | inl o ↦ (let y : b ≡ true = same.1 o in let e : true ≡ false = sym y ∙ n in cc)
      | inr o ↦ subst (λ (y : Trees). HaveOwn shapes first y) (trees-drop_all ts i l) (so.1 (subst (λ (x : List Term). HaveOwn shapes first (trees x)) (sym s) o))
    ])
