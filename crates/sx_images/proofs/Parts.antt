-- Nodes by the numbers of their kids, and their plain images.
use Rattle.std.proofs.Common.{◌≡◌, arith, ℕ, zero, suc, ◌<◌, ◌≤◌, map, length, get_or, List, [], ◌∷◌, Option, Some, None, refl, sym, ap, ◌∙◌, subst}
use Rattle.std.specs.Prelude.{option_map}
use Rattle.sx_term.specs.Tree.{Tree, Trees, node, ◌▹◌, forest, listed, depth_of, greatest_depth}
use Rattle.sx_term.specs.Instances.{instance, bound_by}
use Rattle.sx_plain.specs.Plain.{Body, Table, image_node, image, images}
use Rattle.sx_plain.specs.Tables.{FitsTable, FitTable}
use Rattle.sx_arena.specs.declared.arena.Cell.{Cell}
use Rattle.sx_arena.specs.declared.shape.Shape.TheVariants.{Node as Branch}
use Rattle.sx_arena.specs.Arena.{SmallVec, tree_at, shape_tree, IsCellRead}

-- a node that is read
pub node_read : (ts : List Tree) (index label : ℕ) (c : Cell) (kids : SmallVec ℕ) (is : List ℕ) → IsCellRead ts index c → c.shape ≡ Branch label kids → is ≡ kids.items → tree_at ts index ≡ node label (forest (map (tree_at ts) is))
node_read ts index label c kids is r e f = r.tree ∙ ap (shape_tree ts) e ∙ ap (λ (xs : List ℕ). node label (forest (map (tree_at ts) xs))) (sym f)

-- a kid is no deeper than the deepest
pub depth_among : (ts : List Tree) (is : List ℕ) (i k : ℕ) → i < length is → k ≡ get_or is i 0 → depth_of (tree_at ts k) ≤ greatest_depth (forest (map (tree_at ts) is))
depth_among ts [] i k h e = absurd (omega arith)
depth_among ts (x ∷ is) zero k h e = let f = ap (λ (y : ℕ). depth_of (tree_at ts y)) e in omega arith
depth_among ts (x ∷ is) (suc i) k h e = let r = depth_among ts is i k (omega arith) e in omega arith

-- a kid fits where its node does
fit_among : (table : Table) (ts : List Tree) (is : List ℕ) (i k : ℕ) → FitTable table (forest (map (tree_at ts) is)) → i < length is → k ≡ get_or is i 0 → FitsTable table (tree_at ts k)
fit_among table ts [] i k f h e = absurd (omega arith)
fit_among table ts (x ∷ is) zero k f h e = subst (λ (y : ℕ). FitsTable table (tree_at ts y)) (sym e) f.0
fit_among table ts (x ∷ is) (suc i) k f h e = fit_among table ts is i k f.1 (omega arith) e

pub kid_fits : (table : Table) (ts : List Tree) (index label : ℕ) (c : Cell) (kids : SmallVec ℕ) (is : List ℕ) (i k : ℕ) → IsCellRead ts index c → c.shape ≡ Branch label kids → is ≡ kids.items →
    FitsTable table (tree_at ts index) → i < length is → k ≡ get_or is i 0 → FitsTable table (tree_at ts k)
kid_fits table ts index label c kids is i k r e f fits h g =
    let n = subst (λ (t : Tree). FitsTable table t) (node_read ts index label c kids is r e f) fits in
    fit_among table ts is i k n.1 h g

-- the images of the kids of a node
pub image_kids : (table : Table) (ts : List Tree) (is : List ℕ) → images table (forest (map (tree_at ts) is)) ≡ forest (map (λ k. image table (tree_at ts k)) is)
image_kids table ts [] = refl
image_kids table ts (i ∷ is) = ap (λ (us : Trees). image table (tree_at ts i) ▹ us) (image_kids table ts is)

pub listed_forest : (us : List Tree) → listed (forest us) ≡ us
listed_forest [] = refl
listed_forest (u ∷ us) = ap (λ (xs : List Tree). u ∷ xs) (listed_forest us)

-- the image of a node is its flat body with the images of its kids
body_node : (o : Option Body) (flat : Tree) (label : ℕ) (us : Trees) → option_map (λ b. b.flat) o ≡ Some flat → instance (bound_by (listed us)) flat ≡ image_node o label us
body_node None flat label us e = absurd (let z : ⊥ = cc in z)
body_node (Some b) flat label us e = let q : b.flat ≡ flat = cc in ap (λ (t : Tree). instance (bound_by (listed us)) t) (sym q)

pub image_by_body : (table : Table) (ts : List Tree) (label : ℕ) (is : List ℕ) (flat : Tree) → option_map (λ b. b.flat) (table label) ≡ Some flat →
    instance (bound_by (map (λ k. image table (tree_at ts k)) is)) flat ≡ image table (node label (forest (map (tree_at ts) is)))
image_by_body table ts label is flat e =
    ap (λ (us : List Tree). instance (bound_by us) flat) (sym (listed_forest (map (λ k. image table (tree_at ts k)) is)))
    ∙ body_node (table label) flat label (forest (map (λ k. image table (tree_at ts k)) is)) e
    ∙ ap (image_node (table label) label) (sym (image_kids table ts is))

-- or the node with the images of its kids
pub image_by_node : (table : Table) (ts : List Tree) (label : ℕ) (is : List ℕ) → table label ≡ None →
    node label (forest (map (λ k. image table (tree_at ts k)) is)) ≡ image table (node label (forest (map (tree_at ts) is)))
image_by_node table ts label is e =
    ap (node label) (sym (image_kids table ts is)) ∙ ap (λ (o : Option Body). image_node o label (images table (forest (map (tree_at ts) is)))) (sym e)
