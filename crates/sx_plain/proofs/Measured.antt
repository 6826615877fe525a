-- How deep and how big instances and images are.
use Rattle.std.proofs.Common.{◌≡◌, arith, ℕ, zero, suc, ◌+◌, ◌*◌, ◌-◌, ◌^◌, ◌<◌, ◌≤◌, max, min, drop, get_or, Vec, List, [], ◌∷◌, map, length, Option, Some, None, ◌⊎◌, inl, inr, refl, sym, ap, ◌∙◌}
use Rattle.std.specs.declared.alloc.Global.{Global}
use Rattle.std.proofs.Math.ListN.{get_or-map}
use Rattle.sx_term.specs.declared.term.Term.{Term, Node}
use Rattle.sx_term.specs.Tree.{Tree, Trees, node, lexeme, hole, none, ◌▹◌, listed, depth_of, greatest_depth, size_of, total_size}
use Rattle.sx_term.specs.Term.{tree}
use Rattle.sx_term.proofs.Kids.{trees, tree-at_node}
use Rattle.sx_term.specs.Instances.{instance, instances, bound_by}
use Rattle.sx_plain.specs.Plain.{Body, Table, image_node, image, images}
use Rattle.sx_plain.specs.Measures.{depth_with, greatest_with, size_with, total_with, greatest, total, node_depth, node_size, image_depths, image_sizes}
use Rattle.sx_plain.specs.Uses.{ArePositive}

abbrev pub depths : List Tree → List ℕ
depths ts = map depth_of ts

abbrev pub sizes : List Tree → List ℕ
sizes ts = map size_of ts

mutual
  instance-depth : (ts : List Tree) (t : Tree) → depth_of (instance (bound_by ts) t) ≡ depth_with (depths ts) t
  instance-depth ts (node label us) = ap (λ (n : ℕ). n + 1) (instances-depth ts us)
  instance-depth ts (lexeme kind text) = refl
  instance-depth ts (hole v) = sym (get_or-map depth_of ts v (node 0 none))

  instances-depth : (ts : List Tree) (us : Trees) → greatest_depth (instances (bound_by ts) us) ≡ greatest_with (depths ts) us
  instances-depth ts none = refl
  instances-depth ts (u ▹ us) =
      let a = instance-depth ts u in
      let b = instances-depth ts us in cc

mutual
  instance-size : (ts : List Tree) (t : Tree) → size_of (instance (bound_by ts) t) ≡ size_with (sizes ts) t
  instance-size ts (node label us) = ap (λ (n : ℕ). n + 1) (instances-size ts us)
  instance-size ts (lexeme kind text) = refl
  instance-size ts (hole v) = sym (get_or-map size_of ts v (node 0 none))

  instances-size : (ts : List Tree) (us : Trees) → total_size (instances (bound_by ts) us) ≡ total_with (sizes ts) us
  instances-size ts none = refl
  instances-size ts (u ▹ us) =
      let a = instance-size ts u in
      let b = instances-size ts us in cc

greatest-listed : (us : Trees) → greatest (depths (listed us)) ≡ greatest_depth us
greatest-listed none = refl
greatest-listed (u ▹ us) = ap (λ (n : ℕ). max (depth_of u) n) (greatest-listed us)

total-listed : (us : Trees) → total (sizes (listed us)) ≡ total_size us
total-listed none = refl
total-listed (u ▹ us) = ap (λ (n : ℕ). size_of u + n) (total-listed us)

pub node-depth : (o : Option Body) (label : ℕ) (us : Trees) → depth_of (image_node o label us) ≡ node_depth o (depths (listed us))
node-depth None label us = ap (λ (n : ℕ). n + 1) (sym (greatest-listed us))
node-depth (Some body) label us = instance-depth (listed us) body.flat

pub node-size : (o : Option Body) (label : ℕ) (us : Trees) → size_of (image_node o label us) ≡ node_size o (sizes (listed us))
node-size None label us = ap (λ (n : ℕ). n + 1) (sym (total-listed us))
node-size (Some body) label us = instance-size (listed us) body.flat

-- the images of the kids of a node, as a list
pub listed-images : (table : Table) (ts : List Term) → listed (images table (trees ts)) ≡ map (λ t. image table (tree t)) ts
listed-images table [] = refl
listed-images table (t ∷ ts) = ap (λ (us : List Tree). image table (tree t) ∷ us) (listed-images table ts)

depths-images : (table : Table) (ts : List Term) → depths (listed (images table (trees ts))) ≡ image_depths table (map tree ts)
depths-images table [] = refl
depths-images table (t ∷ ts) = ap (λ (ds : List ℕ). depth_of (image table (tree t)) ∷ ds) (depths-images table ts)

sizes-images : (table : Table) (ts : List Term) → sizes (listed (images table (trees ts))) ≡ image_sizes table (map tree ts)
sizes-images table [] = refl
sizes-images table (t ∷ ts) = ap (λ (ns : List ℕ). size_of (image table (tree t)) ∷ ns) (sizes-images table ts)

pub image-at_node : (table : Table) (t : Term) (label : ℕ) (kids : Vec Term Global) → t ≡ Node label kids → image table (tree t) ≡ image_node (table label) label (images table (trees kids.items))
image-at_node table t label kids e = ap (image table) (tree-at_node t label kids e)

-- the depth of the image of a node, by the depths of its kids' images
pub depth_found : (table : Table) (t : Term) (label : ℕ) (kids : Vec Term Global) (ts : List Term) (o : Option Body) → t ≡ Node label kids → ts ≡ kids.items → table label ≡ o →
    node_depth o (image_depths table (map tree ts)) ≡ depth_of (image table (tree t))
depth_found table t label kids ts o e s at =
    ap (λ (x : Option Body). node_depth x (image_depths table (map tree ts))) (sym at)
    ∙ ap (λ (x : List Term). node_depth (table label) (image_depths table (map tree x))) s
    ∙ sym (ap depth_of (image-at_node table t label kids e) ∙ node-depth (table label) label (images table (trees kids.items)) ∙ ap (node_depth (table label)) (depths-images table kids.items))

-- its size, by their sizes
pub size_found : (table : Table) (t : Term) (label : ℕ) (kids : Vec Term Global) (ts : List Term) (o : Option Body) → t ≡ Node label kids → ts ≡ kids.items → table label ≡ o →
    node_size o (image_sizes table (map tree ts)) ≡ size_of (image table (tree t))
size_found table t label kids ts o e s at =
    ap (λ (x : Option Body). node_size x (image_sizes table (map tree ts))) (sym at)
    ∙ ap (λ (x : List Term). node_size (table label) (image_sizes table (map tree x))) s
    ∙ sym (ap size_of (image-at_node table t label kids e) ∙ node-size (table label) label (images table (trees kids.items)) ∙ ap (node_size (table label)) (sizes-images table kids.items))

-- each image has a depth of at least 1
pub positive : (t : Tree) → 1 ≤ depth_of t
positive (node label us) = omega arith
positive (lexeme kind text) = omega arith
positive (hole v) = omega arith

pub images-positive : (table : Table) (ts : List Tree) → ArePositive (image_depths table ts)
images-positive table [] = tt
images-positive table (t ∷ ts) = (positive (image table t), images-positive table ts)

pub length-depths : (table : Table) (ts : List Term) → length (image_depths table (map tree ts)) ≡ length ts
length-depths table [] = refl
length-depths table (t ∷ ts) = let h = length-depths table ts in omega arith

pub length-sizes : (table : Table) (ts : List Term) → length (image_sizes table (map tree ts)) ≡ length ts
length-sizes table [] = refl
length-sizes table (t ∷ ts) = let h = length-sizes table ts in omega arith

-- the depth of the image of the kid at a place
pub depth-at : (table : Table) (ts : List Term) (i : ℕ) (k : Term) → i < length ts → k ≡ get_or ts i k →
    depth_of (image table (tree k)) ≡ get_or (image_depths table (map tree ts)) i (depth_of (image table (tree k)))
depth-at table [] i k l g = absurd (omega arith)
depth-at table (t ∷ ts) zero k l g = ap (λ (x : Term). depth_of (image table (tree x))) g
depth-at table (t ∷ ts) (suc i) k l g = depth-at table ts i k (omega arith) g

pub size-at : (table : Table) (ts : List Term) (i : ℕ) (k : Term) → i < length ts → k ≡ get_or ts i k →
    size_of (image table (tree k)) ≡ get_or (image_sizes table (map tree ts)) i (size_of (image table (tree k)))
size-at table [] i k l g = absurd (omega arith)
size-at table (t ∷ ts) zero k l g = ap (λ (x : Term). size_of (image table (tree x))) g
size-at table (t ∷ ts) (suc i) k l g = size-at table ts i k (omega arith) g

-- one more of the numbers, and past the last
pub greatest-step : (ds : List ℕ) (i d : ℕ) → i < length ds → d ≡ get_or ds i d → greatest (drop i ds) ≡ max d (greatest (drop (i + 1) ds))
greatest-step [] i d l e = absurd (omega arith)
greatest-step (x ∷ ds) zero d l e = omega arith
greatest-step (x ∷ ds) (suc i) d l e = let n : suc i + 1 ≡ suc (i + 1) = omega arith in rw n (greatest-step ds i d (omega arith) e)

pub total-step : (ns : List ℕ) (i n : ℕ) → i < length ns → n ≡ get_or ns i n → total (drop i ns) ≡ n + total (drop (i + 1) ns)
total-step [] i n l e = absurd (omega arith)
total-step (x ∷ ns) zero n l e = omega arith
total-step (x ∷ ns) (suc i) n l e = let m : suc i + 1 ≡ suc (i + 1) = omega arith in rw m (total-step ns i n (omega arith) e)

pub greatest-end : (ds : List ℕ) (i : ℕ) → length ds ≤ i → greatest (drop i ds) ≡ 0
greatest-end [] zero l = refl
greatest-end [] (suc i) l = refl
greatest-end (d ∷ ds) zero l = absurd (omega arith)
greatest-end (d ∷ ds) (suc i) l = greatest-end ds i (omega arith)

pub total-end : (ns : List ℕ) (i : ℕ) → length ns ≤ i → total (drop i ns) ≡ 0
total-end [] zero l = refl
total-end [] (suc i) l = refl
total-end (n ∷ ns) zero l = absurd (omega arith)
total-end (n ∷ ns) (suc i) l = total-end ns i (omega arith)

-- sizes that stay at a greatest number
abbrev pub sat : ℕ → ℕ
sat n = min n (2 ^ 64 - 1)

either : (a b : ℕ) → (a ≤ b) ⊎ (b < a)
either a b = grind arith

no_times : (n : ℕ) → 0 * n ≡ 0
no_times n = grind arith

more_times : (times n : ℕ) → suc times * n ≡ times * n + n
more_times times n = grind arith

times-sat : (times n : ℕ) → sat (times * sat n) ≡ sat (times * n)
times-sat zero n = ap sat (no_times (sat n) ∙ sym (no_times n))
times-sat (suc times) n = go (either n (2 ^ 64 - 1))
  where
    go : (n ≤ 2 ^ 64 - 1) ⊎ (2 ^ 64 - 1 < n) → sat (suc times * sat n) ≡ sat (suc times * n)
    go (inl l) = let e : sat n ≡ n = omega arith in ap (λ (m : ℕ). sat (suc times * m)) e
    go (inr l) =
        let e : sat n ≡ 2 ^ 64 - 1 = omega arith in
        let a = more_times times (sat n) in
        let b = more_times times n in omega arith

-- the size with one more part, as often as it is used
pub part-sat : (size times n rest : ℕ) → sat (sat (size + sat (times * sat n)) + rest) ≡ sat (size + (times * n + rest))
part-sat size times n rest = let e = times-sat times n in omega arith
