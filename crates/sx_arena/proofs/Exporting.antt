-- Terms of an arena as values of their own.
use Rattle.std.proofs.Common.{◌≡◌, ℕ, zero, suc, ◌+◌, ◌<◌, ◌≤◌, List, [], ◌∷◌, ◌++◌, map, take, length, get_or, Option, Some, None, Vec, refl, sym, ap, ◌∙◌, arith, subst}
use Rattle.std.specs.declared.alloc.Global.{Global}
use Rattle.std.proofs.lemmas.List.{map_push, map_more, take_all}
use Rattle.sx_term.specs.Tree.{Tree, node, forest, depth_of, greatest_depth}
use Rattle.sx_term.specs.declared.term.Term.{Term, Node}
use Rattle.sx_term.specs.Term.{tree}
use Rattle.sx_term.proofs.Kids.{tree-at_node}
use Rattle.sx_arena.specs.Matching.{Assignment, value_or, filled}
use Rattle.sx_arena.specs.Limits.{first_values}
use Rattle.sx_arena.specs.declared.arena.Cell.{Cell}
use Rattle.sx_arena.specs.declared.shape.Shape.TheVariants.{Node as Branch}
use Rattle.sx_arena.specs.Arena.{SmallVec, tree_at, shape_tree, AreBelow, KidsBelow, IsCellRead}
use Rattle.sx_arena.specs.Binds.{IsBoundTerm}

-- none is deeper than the deepest
pub depth_in : (ts : List Tree) (is : List ℕ) (k i : ℕ) → k < length is → i ≡ get_or is k 0 → depth_of (tree_at ts i) ≤ greatest_depth (forest (map (tree_at ts) is))
depth_in ts [] k i h e = absurd (omega arith)
depth_in ts (x ∷ is) zero i h e = let f = ap (λ y. depth_of (tree_at ts y)) e in omega arith
depth_in ts (x ∷ is) (suc k) i h e = let r = depth_in ts is k i (omega arith) e in omega arith

-- a kid is less deep than its node
pub kid_less : (ts : List Tree) (index label : ℕ) (c : Cell) (kids : SmallVec ℕ) (is : List ℕ) (k i : ℕ) → IsCellRead ts index c → c.shape ≡ Branch label kids → is ≡ kids.items → k < length is → i ≡ get_or is k 0 →
    depth_of (tree_at ts i) < depth_of (tree_at ts index)
kid_less ts index label c kids is k i r e f h g =
    let a : tree_at ts index ≡ node label (forest (map (tree_at ts) is)) = r.tree ∙ ap (shape_tree ts) e ∙ ap (λ xs. node label (forest (map (tree_at ts) xs))) (sym f) in
    let b = ap depth_of a in
    let d = depth_in ts is k i h g in
    omega arith

pub kid_within : (ts : List Tree) (index label : ℕ) (c : Cell) (kids : SmallVec ℕ) (is : List ℕ) (k i : ℕ) → IsCellRead ts index c → c.shape ≡ Branch label kids → is ≡ kids.items → k < length is → i ≡ get_or is k 0 → i < length ts
kid_within ts index label c kids is k i r e f h g = among is k (subst (λ xs. AreBelow (length ts) xs) (sym f) (subst (KidsBelow (length ts)) e r.cell.kids)) h g
  where
    among : (is : List ℕ) (k : ℕ) → AreBelow (length ts) is → k < length is → i ≡ get_or is k 0 → i < length ts
    among [] k b h g = absurd (omega arith)
    among (x ∷ is) zero b h g = (let z = b.0 in omega arith)
    among (x ∷ is) (suc k) b h g = among is k b.1 (omega arith) g

-- the kids of a node are less deep than it
pub kids_less : (ts : List Tree) (index label : ℕ) (c : Cell) (kids : SmallVec ℕ) (is : List ℕ) → IsCellRead ts index c → c.shape ≡ Branch label kids → is ≡ kids.items →
    greatest_depth (forest (map (tree_at ts) is)) + 1 ≡ depth_of (tree_at ts index)
kids_less ts index label c kids is r e f =
    sym (ap depth_of (r.tree ∙ ap (shape_tree ts) e ∙ ap (λ xs. node label (forest (map (tree_at ts) xs))) (sym f)))

pub kids_within : (ts : List Tree) (index label : ℕ) (c : Cell) (kids : SmallVec ℕ) (is : List ℕ) → IsCellRead ts index c → c.shape ≡ Branch label kids → is ≡ kids.items → AreBelow (length ts) is
kids_within ts index label c kids is r e f = subst (λ xs. AreBelow (length ts) xs) (sym f) (subst (KidsBelow (length ts)) e r.cell.kids)

-- one term more
pub exported_more : (ts : List Tree) (is : List ℕ) (i : ℕ) (terms more : List Term) (t : Term) → i < length is → map tree terms ≡ map (tree_at ts) (take i is) → tree t ≡ tree_at ts (get_or is i 0) →
    more ≡ terms ++ t ∷ [] → map tree more ≡ map (tree_at ts) (take (i + 1) is)
exported_more ts is i terms more t l m e f = ap (map tree) f ∙ map_push tree terms t ∙ (λ j. m j ++ e j ∷ []) ∙ sym (map_more (tree_at ts) is i 0 l)

pub exported_all : (ts : List Tree) (is : List ℕ) (i : ℕ) (terms : List Term) → length is ≤ i → map tree terms ≡ map (tree_at ts) (take i is) → map tree terms ≡ map (tree_at ts) is
exported_all ts is i terms l m = m ∙ ap (map (tree_at ts)) (take_all i is l)

pub exported_node : (ts : List Tree) (index label : ℕ) (c : Cell) (kids : SmallVec ℕ) (is : List ℕ) (parts : Vec Term Global) → IsCellRead ts index c → c.shape ≡ Branch label kids → is ≡ kids.items →
    map tree parts.items ≡ map (tree_at ts) is → tree (Node label parts) ≡ tree_at ts index
exported_node ts index label c kids is parts r e f m =
    tree-at_node (Node label parts) label parts refl
    ∙ ap (λ xs. node label (forest xs)) (m ∙ ap (map (tree_at ts)) f)
    ∙ sym (r.tree ∙ ap (shape_tree ts) e)

-- one value more
values_one : (n : ℕ) (s : ℕ → Tree) → first_values (suc n) s ≡ first_values n s ++ s n ∷ []
values_one zero s = refl
values_one (suc n) s = ap (λ xs. s 0 ∷ xs) (values_one n (λ v. s (suc v)))

pub values_more : (ts : List Tree) (env : Assignment) (n : ℕ) (terms more : List Term) (t : Term) → map tree terms ≡ first_values n (filled env) → tree t ≡ filled env n → more ≡ terms ++ t ∷ [] → map tree more ≡ first_values (n + 1) (filled env)
values_more ts env n terms more t m e f =
    let k : n + 1 ≡ suc n = omega arith in
    ap (map tree) f ∙ map_push tree terms t ∙ (λ i. m i ++ e i ∷ []) ∙ sym (ap (λ (j : ℕ). first_values j (filled env)) k ∙ values_one n (filled env))

pub value_found : (ts : List Tree) (env : Assignment) (n i : ℕ) (t : Term) → IsBoundTerm ts (env n) (Some i) → tree t ≡ tree_at ts i → tree t ≡ filled env n
value_found ts env n i t f e = e ∙ sym (ap (λ (o : Option Tree). value_or o) f.1)

pub value_none : (ts : List Tree) (env : Assignment) (n : ℕ) (t : Term) (kids : Vec Term Global) → IsBoundTerm ts (env n) None → kids.items ≡ [] → t ≡ Node 0 kids → tree t ≡ filled env n
value_none ts env n t kids f k e = tree-at_node t 0 kids e ∙ ap (λ xs. node 0 (forest (map tree xs))) k ∙ sym (ap (λ (o : Option Tree). value_or o) f)
