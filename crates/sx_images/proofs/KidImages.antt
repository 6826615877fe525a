-- Plain images of the kids of a node, and that of the node.
use Rattle.std.proofs.Common.{◌≡◌, arith, ℕ, ◌+◌, ◌<◌, ◌≤◌, map, take, take_all, length, get_or, List, [], ◌∷◌, ◌++◌, Option, Some, None, Result, Ok, Err, IfOk, refl, sym, ap, ◌∙◌, subst}
use Rattle.std.specs.Prelude.{option_map, OnOk}
use Rattle.std.proofs.lemmas.List.{map_push, map_more}
use Rattle.sx_term.specs.Tree.{Tree, node, lexeme, hole, none, forest, depth_of, greatest_depth}
use Rattle.sx_term.specs.Instances.{instance, bound_by}
use Rattle.sx_plain.specs.Plain.{Table, image}
use Rattle.sx_arena.specs.declared.arena.Arena.{Arena}
use Rattle.sx_arena.specs.Grown.{Extends}
use Rattle.sx_arena.specs.Arena.{trees, tree_at, IsArena, IsHeld, AreBelow}
use Rattle.sx_arena.proofs.Growing.{extends-same, extends-then, extends-length, extends-at}
use Rattle.sx_arena.proofs.Arenas.{maps_same, below_more, below_zero}
use Rattle.sx_arena.proofs.Patterns.{below_push, held_after}
use Rattle.sx_images.specs.declared.node.Node.{Node}
use Rattle.sx_images.specs.Images.{noted_at, with_note, AreImagesNoted, IsImageAt}
use Rattle.sx_images.specs.Nodes.{IsLeaf, IsNodeAt}
use Rattle.sx_images.proofs.Known.{made_stay}
use Rattle.sx_images.proofs.Noting.{noted-more}
use Rattle.sx_images.proofs.Parts.{depth_among, image_by_body, image_by_node}

module _ (table : Table) where
  -- the images of the kids of a node that are made so far
  pub record Making (start : List Tree) (a : Arena) (notes : List (Option ℕ)) (parts is : List ℕ) (i : ℕ) : Type 0 where
    pub arena : IsArena a
    pub extends : Extends start (trees a)
    pub known : AreImagesNoted table (trees a) notes
    pub below : AreBelow (length (trees a)) parts
    pub are : map (tree_at (trees a)) parts ≡ map (λ k. image table (tree_at start k)) (take i is)

  pub making_none : (a : Arena) (notes : List (Option ℕ)) (parts is : List ℕ) → IsArena a → AreImagesNoted table (trees a) notes → parts ≡ [] → Making (trees a) a notes parts is 0
  making_none a notes parts is h known e = record {
    arena = h;
    extends = extends-same (trees a);
    known = known;
    below = subst (λ (x : List ℕ). AreBelow (length (trees a)) x) (sym e) tt;
    are = ap (map (tree_at (trees a))) e;
  }

  pub making_more : (start : List Tree) (old new : Arena) (notes others : List (Option ℕ)) (parts more is : List ℕ) (i k j : ℕ) → Making start old notes parts is i → AreImagesNoted table (trees new) others →
      IsHeld old new j (image table (tree_at (trees old) k)) → (t : Tree) (n : Node) → IsNodeAt start t (Some n) → is ≡ n.kids.items → more ≡ parts ++ j ∷ [] → i < length is → k ≡ get_or is i 0 → Making start new others more is (i + 1)
  making_more start old new notes others parts more is i k j m known h t n at f e l g =
      let b : AreBelow (length start) is = subst (λ (xs : List ℕ). AreBelow (length start) xs) (sym f) at.0 in
      let ts = trees old in
      let us = trees new in
      let x = h.extends in
      let w : k < length start = (let q = below_zero (length start) is b i l in omega arith) in
      let a = maps_same ts us x parts m.below ∙ m.are in
      let d : tree_at us j ≡ image table (tree_at start k) = h.is ∙ ap (image table) (extends-at start ts m.extends k (node 0 none) w) in
      record {
        arena = h.arena;
        extends = extends-then start ts us m.extends x;
        known = known;
        below = subst (λ (y : List ℕ). AreBelow (length us) y) (sym e) (below_push (length us) parts j (below_more (length ts) (length us) (extends-length ts us x) parts m.below) h.within);
        are = ap (map (tree_at us)) e ∙ map_push (tree_at us) parts j ∙ (λ p. a p ++ d p ∷ [])
            ∙ sym (map_more (λ y. image table (tree_at start y)) is i 0 l ∙ ap (λ (y : ℕ). map (λ z. image table (tree_at start z)) (take i is) ++ image table (tree_at start y) ∷ []) (sym g));
      }

  -- the node that is read
  pub node_is : (ts : List Tree) (t : Tree) (o : Option Node) (n : Node) → IsNodeAt ts t o → o ≡ Some n → IsNodeAt ts t (Some n)
  node_is ts t o n h e = subst (λ (x : Option Node). IsNodeAt ts t x) e h

  pub leaf_is : (ts : List Tree) (t : Tree) (o : Option Node) → IsNodeAt ts t o → o ≡ None → IsLeaf t
  leaf_is ts t o h e = subst (λ (x : Option Node). IsNodeAt ts t x) e h

  -- a kid of it is less deep, and stands in the arena so far
  pub kid_within : (start : List Tree) (a : Arena) (t : Tree) (n : Node) (is : List ℕ) (i k : ℕ) → Extends start (trees a) → IsNodeAt start t (Some n) → is ≡ n.kids.items → i < length is → k ≡ get_or is i 0 →
      (k < length (trees a)) × (depth_of (tree_at (trees a) k) < depth_of t)
  kid_within start a t n is i k x h f l g =
      let b : AreBelow (length start) is = subst (λ (xs : List ℕ). AreBelow (length start) xs) (sym f) h.0 in
      let w : k < length start = (let q = below_zero (length start) is b i l in omega arith) in
      let m = extends-length start (trees a) x in
      let s = ap depth_of (extends-at start (trees a) x k (node 0 none) w) in
      let d = depth_among start is i k l g in
      let e = ap depth_of h.1 in
      let c = ap (λ (xs : List ℕ). greatest_depth (forest (map (tree_at start) xs))) f in
      (omega arith, omega arith)

  -- all the kids
  made_all : (start : List Tree) (a : Arena) (notes : List (Option ℕ)) (parts is : List ℕ) (i : ℕ) → Making start a notes parts is i → length is ≤ i → map (tree_at (trees a)) parts ≡ map (λ k. image table (tree_at start k)) is
  made_all start a notes parts is i m l = m.are ∙ ap (map (λ k. image table (tree_at start k))) (take_all i is l)

  pub by_node : (old mid new : Arena) (notes : List (Option ℕ)) (parts is : List ℕ) (i : ℕ) (t : Tree) (n : Node) → Making (trees old) mid notes parts is i → length is ≤ i → is ≡ n.kids.items →
      IsNodeAt (trees old) t (Some n) → table n.label ≡ None → (j : ℕ) → IsHeld mid new j (node n.label (forest (map (tree_at (trees mid)) parts))) → IsHeld old new j (image table t)
  by_node old mid new notes parts is i t n m l f at none_is j h =
      let q = ap (λ (xs : List Tree). node n.label (forest xs)) (made_all (trees old) mid notes parts is i m l)
      ∙ image_by_node table (trees old) n.label is none_is
      ∙ ap (λ (xs : List ℕ). image table (node n.label (forest (map (tree_at (trees old)) xs)))) f ∙ sym (ap (image table) at.1) in
      held_after old mid new j (node n.label (forest (map (tree_at (trees mid)) parts))) (image table t) m.extends q h

  pub by_body : (old mid new : Arena) (notes : List (Option ℕ)) (parts is : List ℕ) (i : ℕ) (t : Tree) (n : Node) (flat : Tree) → Making (trees old) mid notes parts is i → length is ≤ i → is ≡ n.kids.items →
      IsNodeAt (trees old) t (Some n) → option_map (λ b. b.flat) (table n.label) ≡ Some flat → (ps : List ℕ) → ps ≡ parts → (j : ℕ) →
      IsHeld mid new j (instance (bound_by (map (tree_at (trees mid)) ps)) flat) → IsHeld old new j (image table t)
  by_body old mid new notes parts is i t n flat m l f at some_is ps g j h =
      let q = ap (λ (xs : List ℕ). instance (bound_by (map (tree_at (trees mid)) xs)) flat) g
      ∙ ap (λ (xs : List Tree). instance (bound_by xs) flat) (made_all (trees old) mid notes parts is i m l)
      ∙ image_by_body table (trees old) n.label is flat some_is
      ∙ ap (λ (xs : List ℕ). image table (node n.label (forest (map (tree_at (trees old)) xs)))) f ∙ sym (ap (image table) at.1) in
      held_after old mid new j (instance (bound_by (map (tree_at (trees mid)) ps)) flat) (image table t) m.extends q h

  -- a lexeme or a variable is its own image
  leaf_image : (t : Tree) → IsLeaf t → image table t ≡ t
  leaf_image (node label ts) h = absurd h
  leaf_image (lexeme kind text) h = refl
  leaf_image (hole v) h = refl

  pub leaf_held : (a : Arena) (i : ℕ) → IsArena a → i < length (trees a) → IsLeaf (tree_at (trees a) i) → IsHeld a a i (image table (tree_at (trees a) i))
  leaf_held a i h l f = record {
    arena = h;
    extends = extends-same (trees a);
    within = l;
    is = sym (leaf_image (tree_at (trees a) i) f);
  }

  -- what is noted stands
  pub noted_held : (a : Arena) (notes : List (Option ℕ)) (i j : ℕ) → IsArena a → AreImagesNoted table (trees a) notes → Some j ≡ noted_at notes i → IsHeld a a j (image table (tree_at (trees a) i))
  noted_held a notes i j h known e =
      let k = known i j (sym e) in
      record {
        arena = h;
        extends = extends-same (trees a);
        within = k.stands;
        is = k.is;
      }

  -- and the image that was made is noted
  pub made_more : (old new : Arena) (notes others : List (Option ℕ)) (i j : ℕ) → AreImagesNoted table (trees new) notes → i < length (trees old) → IsHeld old new j (image table (tree_at (trees old) i)) →
      ((k : ℕ) → noted_at others k ≡ with_note (noted_at notes) i j k) → AreImagesNoted table (trees new) others
  made_more old new notes others i j known l h same =
      noted-more (IsImageAt table (trees new)) (noted_at notes) (noted_at others) i j known
      (record {
        within = (let n = extends-length (trees old) (trees new) h.extends in omega arith);
        stands = h.within;
        is = h.is ∙ ap (image table) (sym (extends-at (trees old) (trees new) h.extends i (node 0 none) l));
      })
      same

  -- what is known stays so where a term was put in
  pub known_after : {E : Type 0} (old new : Arena) (notes : List (Option ℕ)) (t : Tree) (r : Result ℕ E) → IfOk r (λ j. IsHeld old new j t) → AreImagesNoted table (trees old) notes → OnOk r (AreImagesNoted table (trees new) notes)
  known_after {E} old new notes t (Ok j) h known = made_stay table (trees old) (trees new) notes h.extends known
  known_after {E} old new notes t (Err e) h known = tt
