-- Measures of the kids of a node, and that of the node.
use Rattle.std.proofs.Common.{◌≡◌, arith, ℕ, ◌+◌, ◌*◌, ◌<◌, ◌≤◌, max, map, take, take_all, length, get_or, List, [], ◌∷◌, ◌++◌, Option, Some, None, refl, sym, ap, ◌∙◌, subst}
use Rattle.std.specs.Prelude.{IfSome}
use Rattle.std.proofs.lemmas.List.{map_push, map_more, length-map}
use Rattle.sx_term.specs.Tree.{Tree, Trees, forest, listed, depth_of, size_of, greatest_depth}
use Rattle.sx_plain.specs.declared.measure.Measure.{Measure}
use Rattle.sx_plain.specs.Plain.{Body, Table, image_node, image}
use Rattle.sx_plain.specs.Tables.{HasParts, FitsTable}
use Rattle.sx_plain.specs.Measures.{greatest, node_depth, node_size}
use Rattle.sx_plain.specs.PartMeasures.{depths_of, sizes_of}
use Rattle.sx_plain.specs.Uses.{ArePositive}
use Rattle.sx_plain.proofs.Measured.{depths, sizes, sat, node-depth, node-size, positive}
use Rattle.sx_plain.proofs.PartLaws.{node-sats}
use Rattle.sx_arena.specs.declared.arena.Cell.{Cell}
use Rattle.sx_arena.specs.declared.shape.Shape.TheVariants.{Node as Branch}
use Rattle.sx_arena.specs.Arena.{SmallVec, tree_at, IsCellRead}
use Rattle.sx_images.specs.Images.{IsMeasure, AreMeasured}
use Rattle.sx_images.proofs.Parts.{node_read, depth_among, image_kids}

module _ (table : Table) (ts : List Tree) where
  abbrev deep : ℕ → ℕ
  deep k = depth_of (image table (tree_at ts k))

  abbrev big : ℕ → ℕ
  big k = size_of (image table (tree_at ts k))

  abbrev big_or_most : ℕ → ℕ
  big_or_most k = sat (size_of (image table (tree_at ts k)))

  -- the kids of a node that are measured so far
  pub record Measuring (notes : List (Option Measure)) (parts : List Measure) (is : List ℕ) (i : ℕ) : Type 0 where
    pub known : AreMeasured table ts notes
    pub depths : depths_of parts ≡ map deep (take i is)
    pub sizes : sizes_of parts ≡ map big_or_most (take i is)
    pub small : greatest (depths_of parts) ≤ 1001 * greatest_depth (forest (map (tree_at ts) is))

  pub measuring_none : (notes : List (Option Measure)) (parts : List Measure) (is : List ℕ) → AreMeasured table ts notes → parts ≡ [] → Measuring notes parts is 0
  measuring_none notes parts is known e = record {
    known = known;
    depths = ap depths_of e;
    sizes = ap sizes_of e;
    small = (let n : greatest (depths_of parts) ≡ 0 = ap (λ (ms : List Measure). greatest (depths_of ms)) e in omega arith);
  }

  greatest-push : (ds : List ℕ) (d : ℕ) → greatest (ds ++ d ∷ []) ≡ max (greatest ds) d
  greatest-push [] d = omega arith
  greatest-push (x ∷ ds) d = let h = greatest-push ds d in omega arith

  pub measuring_more : (notes new : List (Option Measure)) (parts more : List Measure) (is : List ℕ) (i k : ℕ) (m : Measure) → Measuring notes parts is i → AreMeasured table ts new → IsMeasure table (tree_at ts k) m →
      more ≡ parts ++ m ∷ [] → i < length is → k ≡ get_or is i 0 → Measuring new more is (i + 1)
  measuring_more notes new parts more is i k m all known own e l g =
      let d : depths_of more ≡ depths_of parts ++ m.depth ∷ [] = ap depths_of e ∙ map_push (λ (x : Measure). x.depth) parts m in
      let s : sizes_of more ≡ sizes_of parts ++ m.size ∷ [] = ap sizes_of e ∙ map_push (λ (x : Measure). x.size) parts m in
      let q = depth_among ts is i k l g in
      record {
        known = known;
        depths = d ∙ (λ j. all.depths j ++ own.depth j ∷ []) ∙ sym (map_more deep is i 0 l ∙ ap (λ (x : ℕ). map deep (take i is) ++ deep x ∷ []) (sym g));
        sizes = s ∙ (λ j. all.sizes j ++ own.size j ∷ []) ∙ sym (map_more big_or_most is i 0 l ∙ ap (λ (x : ℕ). map big_or_most (take i is) ++ big_or_most x ∷ []) (sym g));
        small = (let a = ap greatest d ∙ greatest-push (depths_of parts) m.depth in
            let b = all.small in
            let c = own.small in omega arith);
      }

  positives : (is : List ℕ) → ArePositive (map deep is)
  positives [] = tt
  positives (i ∷ is) = (positive (image table (tree_at ts i)), positives is)

  all_depths : (is : List ℕ) → depths (listed (forest (map (λ k. image table (tree_at ts k)) is))) ≡ map deep is
  all_depths [] = refl
  all_depths (i ∷ is) = ap (λ (ds : List ℕ). deep i ∷ ds) (all_depths is)

  all_sizes : (is : List ℕ) → map sat (sizes (listed (forest (map (λ k. image table (tree_at ts k)) is)))) ≡ map big_or_most is
  all_sizes [] = refl
  all_sizes (i ∷ is) = ap (λ (ns : List ℕ). big_or_most i ∷ ns) (all_sizes is)

  has_parts : (n : ℕ) (o : Option Body) (us : Trees) → HasParts o us → length (listed us) ≡ n → IfSome o (λ b. n ≡ b.arity)
  has_parts n None us h e = tt
  has_parts n (Some b) us h e = sym e ∙ h

  count : (is : List ℕ) → length (listed (forest (map (tree_at ts) is))) ≡ length is
  count [] = refl
  count (i ∷ is) = let h = count is in omega arith

  -- all the kids are measured
  pub record Measured (label : ℕ) (parts : List Measure) (is : List ℕ) : Type 0 where
    pub many : IfSome (table label) (λ b. length parts ≡ b.arity)
    pub positive : ArePositive (depths_of parts)
    pub depths : depths_of parts ≡ map deep is
    pub sizes : sizes_of parts ≡ map big_or_most is
    pub small : greatest (depths_of parts) ≤ 1001 * greatest_depth (forest (map (tree_at ts) is))

  pub measured_all : (notes : List (Option Measure)) (index label : ℕ) (c : Cell) (kids : SmallVec ℕ) (parts ms : List Measure) (is : List ℕ) (i : ℕ) → IsCellRead ts index c → c.shape ≡ Branch label kids → is ≡ kids.items →
      FitsTable table (tree_at ts index) → Measuring notes parts is i → length is ≤ i → ms ≡ parts → Measured label ms is
  measured_all notes index label c kids parts ms is i r e f fits all l g =
      let n = subst (λ (t : Tree). FitsTable table t) (node_read ts index label c kids is r e f) fits in
      let d : depths_of parts ≡ map deep is = all.depths ∙ ap (map deep) (take_all i is l) in
      let s : sizes_of parts ≡ map big_or_most is = all.sizes ∙ ap (map big_or_most) (take_all i is l) in
      let q : length parts ≡ length is = sym (length-map parts (λ (x : Measure). x.depth)) ∙ ap (λ (x : List ℕ). length x) d ∙ length-map is deep in
      subst (λ (x : List Measure). Measured label x is) (sym g) (record {
        many = has_parts (length parts) (table label) (forest (map (tree_at ts) is)) n.0 (count is ∙ sym q);
        positive = subst ArePositive (sym d) (positives is);
        depths = d;
        sizes = s;
        small = all.small;
      })

  pub measured_node : (index label : ℕ) (c : Cell) (kids : SmallVec ℕ) (parts : List Measure) (is : List ℕ) (m : Measure) → IsCellRead ts index c → c.shape ≡ Branch label kids → is ≡ kids.items → Measured label parts is →
      m.depth ≡ node_depth (table label) (depths_of parts) → m.depth ≤ greatest (depths_of parts) + 1000 → m.size ≡ sat (node_size (table label) (sizes_of parts)) → IsMeasure table (tree_at ts index) m
  measured_node index label c kids parts is m r e f all d l s =
      let n = node_read ts index label c kids is r e f in
      let us = forest (map (λ k. image table (tree_at ts k)) is) in
      let w : image table (tree_at ts index) ≡ image_node (table label) label us = ap (image table) n ∙ ap (image_node (table label) label) (image_kids table ts is) in
      record {
        depth = d ∙ ap (node_depth (table label)) (all.depths ∙ sym (all_depths is)) ∙ sym (ap depth_of w ∙ node-depth (table label) label us);
        small = (let g = ap depth_of n in let h = all.small in omega arith);
        size = s ∙ ap (λ (ns : List ℕ). sat (node_size (table label) ns)) (all.sizes ∙ sym (all_sizes is)) ∙ node-sats (table label) (sizes (listed us)) ∙ sym (ap (λ (t : Tree). sat (size_of t)) w ∙ ap sat (node-size (table label) label us));
      }
