-- Terms that are put into an arena.
use Rattle.std.proofs.Common.{◌≡◌, ℕ, ◌+◌, ◌<◌, ◌≤◌, Bool, false, List, [], ◌∷◌, ◌++◌, map, take, drop, length, get_or, Vec, sym, ap, ◌∙◌, arith, subst, append_assoc}
use Rattle.std.specs.declared.alloc.Global.{Global}
use Rattle.std.proofs.lemmas.List.{map_push, map_more, drop_all, take_all, length-map, append-nil}
use Rattle.sx_term.specs.Tree.{Tree, node, forest}
use Rattle.sx_term.specs.declared.term.Term.{Term, Node}
use Rattle.sx_term.specs.Term.{tree}
use Rattle.sx_term.proofs.Kids.{tree-at_node}
use Rattle.sx_arena.specs.declared.arena.Arena.{Arena}
use Rattle.sx_arena.specs.Grown.{Extends}
use Rattle.sx_arena.specs.Arena.{trees, tree_at, IsArena, IsHeld, AreBelow}
use Rattle.sx_arena.specs.Places.{selected, AreHeld}
use Rattle.sx_arena.proofs.Growing.{extends-same, extends-then, extends-length}
use Rattle.sx_arena.proofs.Arenas.{maps_same, below_more}
use Rattle.sx_arena.proofs.Patterns.{below_push, held_after}
use Rattle.sx_arena.proofs.Placed.{selected_none, selected_more, selected_less, maps_drop}

-- the kids of a node that are put in so far
pub record Entering (start : List Tree) (a : Arena) (parts : List ℕ) (kids : List Term) (i : ℕ) : Type 0 where
  pub arena : IsArena a
  pub extends : Extends start (trees a)
  pub below : AreBelow (length (trees a)) parts
  pub are : map (tree_at (trees a)) parts ≡ map tree (take i kids)

pub entering_none : (a : Arena) (parts : List ℕ) (kids : List Term) → IsArena a → parts ≡ [] → Entering (trees a) a parts kids 0
entering_none a parts kids h e = record {
  arena = h;
  extends = extends-same (trees a);
  below = subst (λ (x : List ℕ). AreBelow (length (trees a)) x) (sym e) tt;
  are = ap (map (tree_at (trees a))) e;
}

pub entering_more : (start : List Tree) (old new : Arena) (parts more : List ℕ) (kids : List Term) (i k : ℕ) (kid : Term) →
    Entering start old parts kids i → IsHeld old new k (tree kid) → more ≡ parts ++ k ∷ [] → i < length kids → kid ≡ get_or kids i kid → Entering start new more kids (i + 1)
entering_more start old new parts more kids i k kid m h e l g =
    let ts = trees old in
    let us = trees new in
    let x = h.extends in
    let a : map (tree_at us) parts ≡ map tree (take i kids) = maps_same ts us x parts m.below ∙ m.are in
    let c : map tree (take (i + 1) kids) ≡ map tree (take i kids) ++ tree kid ∷ [] = map_more tree kids i kid l ∙ ap (λ y. map tree (take i kids) ++ tree y ∷ []) (sym g) in
    record {
      arena = h.arena;
      extends = extends-then start ts us m.extends x;
      below = subst (λ (y : List ℕ). AreBelow (length us) y) (sym e) (below_push (length us) parts k (below_more (length ts) (length us) (extends-length ts us x) parts m.below) h.within);
      are = ap (map (tree_at us)) e ∙ map_push (tree_at us) parts k ∙ (λ j. a j ++ h.is j ∷ []) ∙ sym c;
    }

pub entering_end : (old mid new : Arena) (label : ℕ) (parts : List ℕ) (term : Term) (kids : Vec Term Global) (ts : List Term) (i : ℕ) →
    Entering (trees old) mid parts ts i → length ts ≤ i → ts ≡ kids.items → term ≡ Node label kids → (j : ℕ) →
    IsHeld mid new j (node label (forest (map (tree_at (trees mid)) parts))) → IsHeld old new j (tree term)
entering_end old mid new label parts term kids ts i m l e p j h =
    let a : map (tree_at (trees mid)) parts ≡ map tree kids.items = m.are ∙ ap (λ xs. map tree xs) (take_all i ts l ∙ e) in
    held_after old mid new j (node label (forest (map (tree_at (trees mid)) parts))) (tree term) m.extends
    (ap (λ xs. node label (forest xs)) a ∙ sym (tree-at_node term label kids p)) h

-- places that are put in so far
pub record Placed (start : List Tree) (a : Arena) (mask : List Bool) (o : Bool) (parts : List ℕ) (places : List Term) (i : ℕ) : Type 0 where
  pub arena : IsArena a
  pub extends : Extends start (trees a)
  pub below : AreBelow (length (trees a)) parts
  pub are : map (tree_at (trees a)) parts ++ selected o (drop i mask) (drop i (map tree places)) ≡ selected o mask (map tree places)

pub placed_none : (a : Arena) (mask : List Bool) (o : Bool) (parts : List ℕ) (places : List Term) → IsArena a → parts ≡ [] → Placed (trees a) a mask o parts places 0
placed_none a mask o parts places h e = record {
  arena = h;
  extends = extends-same (trees a);
  below = subst (λ (x : List ℕ). AreBelow (length (trees a)) x) (sym e) tt;
  are = ap (λ xs. map (tree_at (trees a)) xs ++ selected o mask (map tree places)) e;
}

pub placed_skip : (start : List Tree) (a : Arena) (mask : List Bool) (o : Bool) (parts : List ℕ) (places : List Term) (i : ℕ) (p : Term) →
    Placed start a mask o parts places i → i < length places → p ≡ get_or places i p → (get_or mask i false ≡ o → ⊥) → Placed start a mask o parts places (i + 1)
placed_skip start a mask o parts places i p f l e d = record {
  arena = f.arena;
  extends = f.extends;
  below = f.below;
  are = ap (λ xs. map (tree_at (trees a)) parts ++ xs) (sym (selected_less o mask (map tree places) i (tree p) (maps_drop tree places i p l e) d)) ∙ f.are;
}

pub placed_more : (start : List Tree) (old new : Arena) (mask : List Bool) (o : Bool) (parts more : List ℕ) (places : List Term) (i k : ℕ) (p : Term) →
    Placed start old mask o parts places i → i < length places → p ≡ get_or places i p → get_or mask i false ≡ o → IsHeld old new k (tree p) → more ≡ parts ++ k ∷ [] → Placed start new mask o more places (i + 1)
placed_more start old new mask o parts more places i k p f l e d h g =
    let ts = trees old in
    let us = trees new in
    let x = h.extends in
    let a : map (tree_at us) parts ≡ map (tree_at ts) parts = maps_same ts us x parts f.below in
    let rest = selected o (drop (i + 1) mask) (drop (i + 1) (map tree places)) in
    let q : selected o (drop i mask) (drop i (map tree places)) ≡ tree p ∷ rest = selected_more o mask (map tree places) i (tree p) (maps_drop tree places i p l e) d in
    record {
      arena = h.arena;
      extends = extends-then start ts us f.extends x;
      below = subst (λ (y : List ℕ). AreBelow (length us) y) (sym g) (below_push (length us) parts k (below_more (length ts) (length us) (extends-length ts us x) parts f.below) h.within);
      are = ap (λ ys. map (tree_at us) ys ++ rest) g ∙ ap (λ ys. ys ++ rest) (map_push (tree_at us) parts k ∙ (λ j. a j ++ h.is j ∷ []))
          ∙ append_assoc (map (tree_at ts) parts) (tree p ∷ []) rest ∙ ap (λ ys. map (tree_at ts) parts ++ ys) (sym q) ∙ f.are;
    }

pub placed_end : (start new : Arena) (mask : List Bool) (o : Bool) (parts : List ℕ) (places : List Term) (i : ℕ) →
    Placed (trees start) new mask o parts places i → length places ≤ i → AreHeld start new parts (selected o mask (map tree places))
placed_end start new mask o parts places i f l =
    let n = length-map places tree in
    let a = drop_all i (map tree places) (omega arith) in
    record {
      arena = f.arena;
      extends = f.extends;
      within = f.below;
      are = sym (append-nil (map (tree_at (trees new)) parts)) ∙ ap (λ ys. map (tree_at (trees new)) parts ++ ys) (sym (ap (selected o (drop i mask)) a ∙ selected_none o (drop i mask))) ∙ f.are;
    }
