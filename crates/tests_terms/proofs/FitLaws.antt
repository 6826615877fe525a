-- What the conditions of plain images say of a term, part by part.
use Rattle.std.proofs.Common.{◌≡◌, ◌↔◌, arith, ℕ, zero, suc, ◌+◌, ◌-◌, ◌<◌, ◌≤◌, drop, get_or, Vec, List, [], ◌∷◌, ◌⊎◌, inl, inr, length, Option, Some, None, refl, sym, ◌∙◌, subst}
use Rattle.std.specs.Prelude.{option_map}
use Rattle.std.specs.declared.alloc.Global.{Global}
use Rattle.sx_term.specs.declared.term.Term.{Term, Node}
use Rattle.sx_term.specs.Tree.{Tree, Trees, listed}
use Rattle.sx_term.specs.Term.{tree}
use Rattle.sx_term.specs.Instances.{Stands, StandsInKids}
use Rattle.sx_term.proofs.Kids.{trees, tree-at_node, trees-drop, trees-drop_all}
use Rattle.sx_plain.specs.Plain.{Body, Table}
use Rattle.sx_plain.specs.Tables.{IsPlainTable, HasParts, FitsTable, FitTable}

-- a variable that stands in a kid stands in the node
pub stands-found : (v : ℕ) (t : Term) (label : ℕ) (kids : Vec Term Global) (ts : List Term) (i : ℕ) (k : Term) → t ≡ Node label kids → ts ≡ kids.items →
    (StandsInKids v (trees (drop i ts)) ↔ StandsInKids v (trees ts)) → i < length ts → k ≡ get_or ts i k → Stands v (tree k) → Stands v (tree t)
stands-found v t label kids ts i k e s both l g h =
    let here = both.0 (subst (λ (x : Trees). StandsInKids v x) (sym (trees-drop ts i k l g)) (inl h)) in
    subst (λ (x : Tree). Stands v x) (sym (tree-at_node t label kids e)) (subst (λ (x : List Term). StandsInKids v (trees x)) s here)

-- where it stands in no kid it does not stand in the node
pub stands-nowhere : (v : ℕ) (t : Term) (label : ℕ) (kids : Vec Term Global) (ts : List Term) (i : ℕ) → t ≡ Node label kids → ts ≡ kids.items →
    (StandsInKids v (trees (drop i ts)) ↔ StandsInKids v (trees ts)) → length ts ≤ i → Stands v (tree t) → ⊥
stands-nowhere v t label kids ts i e s both l h =
    let in_node = subst (λ (x : Tree). Stands v x) (tree-at_node t label kids e) h in
    let in_kids = subst (λ (x : List Term). StandsInKids v (trees x)) (sym s) in_node in
    subst (λ (x : Trees). StandsInKids v x) (trees-drop_all ts i l) (both.1 in_kids)

-- each variable of the terms is below the number
abbrev pub AllBelow : ℕ → Trees → Type 0
AllBelow arity ts = (v : ℕ) → StandsInKids v ts → v < arity

pub below-kid : (arity : ℕ) (ts : List Term) (i : ℕ) (k : Term) → i < length ts → k ≡ get_or ts i k → ((v : ℕ) → Stands v (tree k) → v < arity) →
    (AllBelow arity (trees (drop i ts)) → AllBelow arity (trees ts)) → AllBelow arity (trees (drop (i + 1) ts)) → AllBelow arity (trees ts)
below-kid arity ts i k l g here so_far rest = so_far (λ v s. pick v (subst (λ (x : Trees). StandsInKids v x) (trees-drop ts i k l g) s))
  where
    pick : (v : ℕ) → Stands v (tree k) ⊎ StandsInKids v (trees (drop (i + 1) ts)) → v < arity
    pick v (inl s) = here v s
    pick v (inr s) = rest v s

pub below-node : (arity : ℕ) (t : Term) (label : ℕ) (kids : Vec Term Global) (ts : List Term) (i : ℕ) → t ≡ Node label kids → ts ≡ kids.items → length ts ≤ i →
    (AllBelow arity (trees (drop i ts)) → AllBelow arity (trees ts)) → (v : ℕ) → Stands v (tree t) → v < arity
below-node arity t label kids ts i e s l so_far v h =
    so_far (λ w k. absurd (subst (λ (x : Trees). StandsInKids w x) (trees-drop_all ts i l) k)) v
    (subst (λ (x : List Term). StandsInKids v (trees x)) (sym s) (subst (λ (x : Tree). Stands v x) (tree-at_node t label kids e) h))

-- each of the terms fits where one and the others do
pub fits-kid : (table : Table) (ts : List Term) (i : ℕ) (k : Term) → i < length ts → k ≡ get_or ts i k → FitsTable table (tree k) →
    (FitTable table (trees (drop i ts)) → FitTable table (trees ts)) → FitTable table (trees (drop (i + 1) ts)) → FitTable table (trees ts)
fits-kid table ts i k l g here so_far rest = so_far (subst (λ (x : Trees). FitTable table x) (sym (trees-drop ts i k l g)) (here, rest))

pub fits-node : (table : Table) (t : Term) (label : ℕ) (kids : Vec Term Global) (ts us : List Term) (i : ℕ) → t ≡ Node label kids → ts ≡ kids.items → us ≡ kids.items → length ts ≤ i →
    HasParts (table label) (trees us) → (FitTable table (trees (drop i ts)) → FitTable table (trees ts)) → FitsTable table (tree t)
fits-node table t label kids ts us i e s q l parts so_far =
    let all = so_far (subst (λ (x : Trees). FitTable table x) (sym (trees-drop_all ts i l)) tt) in
    subst (λ (x : Tree). FitsTable table x) (sym (tree-at_node t label kids e))
    (subst (λ (x : List Term). HasParts (table label) (trees x)) q parts, subst (λ (x : List Term). FitTable table (trees x)) s all)

-- without a flat body any number of parts will do
pub no_parts : (o : Option Body) (ts : Trees) → o ≡ None → HasParts o ts
no_parts o ts e = subst (λ (x : Option Body). HasParts x ts) (sym e) tt

length-trees : (ts : List Term) → length (listed (trees ts)) ≡ length ts
length-trees [] = refl
length-trees (t ∷ ts) = let e = length-trees ts in omega arith

-- as many parts as the flat body has variables
same_count : (n arity : ℕ) (flat : Tree) → ((v : ℕ) → Stands v flat ↔ (v < arity)) → (Stands n flat → ⊥) → ((m : ℕ) → n ≡ m + 1 → Stands m flat) → n ≡ arity
same_count n arity flat parts not last = go (cases n arity)
  where
    cases : (n arity : ℕ) → (n < arity) ⊎ ((n ≡ arity) ⊎ (arity < n))
    cases n arity = grind arith

    pred : (n : ℕ) → arity < n → ((m : ℕ) → n ≡ m + 1 → Stands m flat) → n ≡ arity
    pred zero l h = absurd (omega arith)
    pred (suc m) l h = let k = (parts m).0 (h m (omega arith)) in absurd (omega (arith, k, l))

    go : (n < arity) ⊎ ((n ≡ arity) ⊎ (arity < n)) → n ≡ arity
    go (inl l) = absurd (not ((parts n).1 l))
    go (inr (inl e)) = e
    go (inr (inr l)) = pred n l last

pub has_parts : (base : ℕ) (table : Table) (label : ℕ) (ts : List Term) (flat : Tree) → IsPlainTable base table → option_map (λ (b : Body). b.flat) (table label) ≡ Some flat →
    (Stands (length ts) flat → ⊥) → ((m : ℕ) → length ts ≡ m + 1 → Stands m flat) → HasParts (table label) (trees ts)
has_parts base table label ts flat is e not last = go (table label) refl e
  where
    go : (o : Option Body) → table label ≡ o → option_map (λ (b : Body). b.flat) o ≡ Some flat → HasParts o (trees ts)
    go None at f = tt
    go (Some body) at f =
        let q : body.flat ≡ flat = cc in
        let parts = subst (λ (x : Tree). (v : ℕ) → Stands v x ↔ (v < body.arity)) q (is.flat label body at).parts in
        length-trees ts ∙ same_count (length ts) body.arity flat parts not last
