-- Nodes and flat bodies with the images of their parts.
use Rattle.std.proofs.Common.{◌≡◌, arith, ℕ, zero, suc, ◌<◌, ◌≤◌, take, take_all, get_or, Vec, List, [], ◌∷◌, map, length, Option, Some, None, refl, sym, ap, ◌∙◌, subst}
use Rattle.std.specs.declared.alloc.Global.{Global}
use Rattle.std.specs.Prelude.{Result, Ok, Err, IfOk}
use Rattle.sx_term.specs.declared.term.Term.{Term, Node, Var}
use Rattle.sx_term.specs.Tree.{Tree, Trees, node, none, ◌▹◌, listed, forest}
use Rattle.sx_term.specs.Term.{tree}
use Rattle.sx_term.proofs.Kids.{trees, tree-at_node}
use Rattle.sx_term.specs.Instances.{instance, instances, bound_by}
use Rattle.sx_plain.specs.Plain.{Body, Table, image_node, image, images}
use Rattle.sx_plain.specs.Tables.{HasParts, FitsTable, FitTable}
use Rattle.sx_plain.proofs.Measured.{image-at_node}

-- all of what was gathered
gathered_all : {B : Type 0} (f : Term → B) (ds : List B) (ts : List Term) (i : ℕ) → ds ≡ map f (take i ts) → length ts ≤ i → ds ≡ map f ts
gathered_all f ds ts i e l = e ∙ ap (map f) (take_all i ts l)

-- a node made of the images of these kids
pub images_made : (table : Table) (label : ℕ) (made : Vec Term Global) (ts : List Term) (i : ℕ) → map tree made.items ≡ map (λ k. image table (tree k)) (take i ts) → length ts ≤ i →
    tree (Node label made) ≡ node label (images table (trees ts))
images_made table label made ts i g l =
    tree-at_node _ label made refl
    ∙ ap (λ (x : List Tree). node label (forest x)) (gathered_all (λ k. image table (tree k)) (map tree made.items) ts i g l)
    ∙ sym (ap (node label) (images-trees ts))
  where
    images-trees : (xs : List Term) → images table (trees xs) ≡ forest (map (λ k. image table (tree k)) xs)
    images-trees [] = refl
    images-trees (x ∷ xs) = ap (λ (r : Trees). image table (tree x) ▹ r) (images-trees xs)

-- a node made of the instances of these kids
pub instances_made : (s : ℕ → Tree) (label : ℕ) (made : Vec Term Global) (ts : List Term) (i : ℕ) → map tree made.items ≡ map (λ k. instance s (tree k)) (take i ts) → length ts ≤ i →
    tree (Node label made) ≡ node label (instances s (trees ts))
instances_made s label made ts i g l =
    tree-at_node _ label made refl
    ∙ ap (λ (x : List Tree). node label (forest x)) (gathered_all (λ k. instance s (tree k)) (map tree made.items) ts i g l)
    ∙ sym (ap (node label) (instances-trees ts))
  where
    instances-trees : (xs : List Term) → instances s (trees xs) ≡ forest (map (λ k. instance s (tree k)) xs)
    instances-trees [] = refl
    instances-trees (x ∷ xs) = ap (λ (r : Trees). instance s (tree x) ▹ r) (instances-trees xs)

-- the image of a node without a body, and with one
pub node_image : (table : Table) (t : Term) (label : ℕ) (kids : Vec Term Global) (ts : List Term) → t ≡ Node label kids → ts ≡ kids.items → table label ≡ None →
    node label (images table (trees ts)) ≡ image table (tree t)
node_image table t label kids ts e s at =
    ap (λ (x : List Term). node label (images table (trees x))) s
    ∙ sym (image-at_node table t label kids e ∙ ap (λ (o : Option Body). image_node o label (images table (trees kids.items))) at)

pub body_image : (table : Table) (t : Term) (label : ℕ) (kids : Vec Term Global) (ts : List Term) (body : Body) → t ≡ Node label kids → ts ≡ kids.items → table label ≡ Some body →
    instance (bound_by (listed (images table (trees ts)))) body.flat ≡ image table (tree t)
body_image table t label kids ts body e s at =
    ap (λ (x : List Term). instance (bound_by (listed (images table (trees x)))) body.flat) s
    ∙ sym (image-at_node table t label kids e ∙ ap (λ (o : Option Body). image_node o label (images table (trees kids.items))) at)

-- the instance of a node
pub node_instance : (s : ℕ → Tree) (t : Term) (label : ℕ) (kids : Vec Term Global) (ts : List Term) → t ≡ Node label kids → ts ≡ kids.items →
    node label (instances s (trees ts)) ≡ instance s (tree t)
node_instance s t label kids ts e n = ap (λ (x : List Term). node label (instances s (trees x))) n ∙ sym (ap (instance s) (tree-at_node t label kids e))

-- a variable gives way to the image of its part
pub image-at : (table : Table) (ts : List Term) (i : ℕ) (k : Term) → i < length ts → k ≡ get_or ts i k → image table (tree k) ≡ bound_by (listed (images table (trees ts))) i
image-at table [] i k l g = absurd (omega arith)
image-at table (t ∷ ts) zero k l g = ap (λ (x : Term). image table (tree x)) g
image-at table (t ∷ ts) (suc i) k l g = image-at table ts i k (omega arith) g

pub part_image : (table : Table) (ts : List Term) (v : ℕ) (t k : Term) → t ≡ Var v → v < length ts → k ≡ get_or ts v k →
    image table (tree k) ≡ instance (bound_by (listed (images table (trees ts)))) (tree t)
part_image table ts v t k e l g = image-at table ts v k l g ∙ sym (ap (λ (x : Term). instance (bound_by (listed (images table (trees ts)))) (tree x)) e)

length-trees : (ts : List Term) → length (listed (trees ts)) ≡ length ts
length-trees [] = refl
length-trees (t ∷ ts) = let e = length-trees ts in omega arith

-- past the end of the parts stands a node without parts
past-parts : (table : Table) (ts : List Term) (v : ℕ) → length ts ≤ v → bound_by (listed (images table (trees ts))) v ≡ node 0 none
past-parts table [] v l = refl
past-parts table (t ∷ ts) zero l = absurd (omega arith)
past-parts table (t ∷ ts) (suc v) l = past-parts table ts v (omega arith)

pub no_part : (table : Table) (ts : List Term) (v : ℕ) (t : Term) (made : Vec Term Global) → made.items ≡ [] → t ≡ Var v → length ts ≤ v →
    tree (Node 0 made) ≡ instance (bound_by (listed (images table (trees ts)))) (tree t)
no_part table ts v t made m e l =
    tree-at_node _ 0 made refl
    ∙ ap (λ (x : List Term). node 0 (trees x)) m
    ∙ sym (ap (λ (x : Term). instance (bound_by (listed (images table (trees ts)))) (tree x)) e ∙ past-parts table ts v l)

-- a kid fits where its node does
pub fits-kids : (table : Table) (ts : List Term) (i : ℕ) (k : Term) → FitTable table (trees ts) → i < length ts → k ≡ get_or ts i k → FitsTable table (tree k)
fits-kids table [] i k f l g = absurd (omega arith)
fits-kids table (t ∷ ts) zero k f l g = subst (λ (x : Term). FitsTable table (tree x)) (sym g) f.0
fits-kids table (t ∷ ts) (suc i) k f l g = fits-kids table ts i k f.1 (omega arith) g

pub fit-kids : (table : Table) (t : Term) (label : ℕ) (kids : Vec Term Global) (ts : List Term) → FitsTable table (tree t) → t ≡ Node label kids → ts ≡ kids.items → FitTable table (trees ts)
fit-kids table t label kids ts fits e s =
    let f = subst (λ (x : Tree). FitsTable table x) (tree-at_node t label kids e) fits in
    subst (λ (x : List Term). FitTable table (trees x)) (sym s) f.1

-- and they are as many as the entry's parts
pub parts-are : (table : Table) (t : Term) (label : ℕ) (kids : Vec Term Global) (ts : List Term) (body : Body) → FitsTable table (tree t) → t ≡ Node label kids → ts ≡ kids.items → table label ≡ Some body → length ts ≡ body.arity
parts-are table t label kids ts body fits e s at =
    let f = subst (λ (x : Tree). FitsTable table x) (tree-at_node t label kids e) fits in
    let n : length (listed (trees kids.items)) ≡ body.arity = subst (λ (o : Option Body). HasParts o (trees kids.items)) at f.0 in
    ap (λ (x : List Term). length x) s ∙ sym (length-trees kids.items) ∙ n

-- what is made is what it is equal to
pub made-is : {E : Type 0} (r : Result Term E) (u w : Tree) → IfOk r (λ t. tree t ≡ u) → u ≡ w → IfOk r (λ t. tree t ≡ w)
made-is (Ok t) u w h e = h ∙ e
made-is (Err x) u w h e = tt
