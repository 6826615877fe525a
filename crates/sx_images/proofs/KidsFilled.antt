-- Flat bodies with terms of an arena in the place of their parts.
use Rattle.std.proofs.Common.{◌≡◌, arith, ℕ, zero, suc, ◌+◌, ◌<◌, ◌≤◌, map, take, take_all, length, get_or, List, [], ◌∷◌, ◌++◌, Vec, refl, sym, ap, ◌∙◌, subst}
use Rattle.std.specs.declared.alloc.Global.{Global}
use Rattle.std.proofs.lemmas.List.{map_push, map_more}
use Rattle.sx_term.specs.declared.term.Term.{Term, Node, Var}
use Rattle.sx_term.specs.Tree.{Tree, Trees, node, none, ◌▹◌, forest}
use Rattle.sx_term.specs.Term.{tree}
use Rattle.sx_term.specs.Instances.{instance, instances, bound_by}
use Rattle.sx_term.proofs.Kids.{tree-at_node}
use Rattle.sx_arena.specs.declared.arena.Arena.{Arena}
use Rattle.sx_arena.specs.Grown.{Extends}
use Rattle.sx_arena.specs.Arena.{trees, tree_at, IsArena, IsHeld, AreBelow}
use Rattle.sx_arena.proofs.Growing.{extends-same, extends-then, extends-length}
use Rattle.sx_arena.proofs.Arenas.{maps_same, below_more, below_at}
use Rattle.sx_arena.proofs.Patterns.{below_push, held_after}

-- the kids of a flat body that are made so far
pub record Filling (start : List Tree) (a : Arena) (is made : List ℕ) (kids : List Term) (i : ℕ) : Type 0 where
  pub arena : IsArena a
  pub extends : Extends start (trees a)
  pub parts : AreBelow (length (trees a)) is
  pub same : map (tree_at (trees a)) is ≡ map (tree_at start) is
  pub below : AreBelow (length (trees a)) made
  pub are : map (tree_at (trees a)) made ≡ map (instance (bound_by (map (tree_at start) is))) (map tree (take i kids))

pub filling_none : (a : Arena) (is made : List ℕ) (kids : List Term) → IsArena a → AreBelow (length (trees a)) is → made ≡ [] → Filling (trees a) a is made kids 0
filling_none a is made kids h b e = record {
  arena = h;
  extends = extends-same (trees a);
  parts = b;
  same = refl;
  below = subst (λ (x : List ℕ). AreBelow (length (trees a)) x) (sym e) tt;
  are = ap (map (tree_at (trees a))) e;
}

pub filling_more : (start : List Tree) (old new : Arena) (is made more : List ℕ) (kids : List Term) (i k : ℕ) (kid : Term) → Filling start old is made kids i →
    IsHeld old new k (instance (bound_by (map (tree_at (trees old)) is)) (tree kid)) → more ≡ made ++ k ∷ [] → i < length kids → kid ≡ get_or kids i kid → Filling start new is more kids (i + 1)
filling_more start old new is made more kids i k kid m h e l g =
    let ts = trees old in
    let us = trees new in
    let x = h.extends in
    let F = instance (bound_by (map (tree_at start) is)) in
    let a : map (tree_at us) made ≡ map F (map tree (take i kids)) = maps_same ts us x made m.below ∙ m.are in
    let d : tree_at us k ≡ F (tree kid) = h.is ∙ ap (λ (xs : List Tree). instance (bound_by xs) (tree kid)) m.same in
    let c : map tree (take (i + 1) kids) ≡ map tree (take i kids) ++ tree kid ∷ [] = map_more tree kids i kid l ∙ ap (λ (y : Term). map tree (take i kids) ++ tree y ∷ []) (sym g) in
    record {
      arena = h.arena;
      extends = extends-then start ts us m.extends x;
      parts = below_more (length ts) (length us) (extends-length ts us x) is m.parts;
      same = maps_same ts us x is m.parts ∙ m.same;
      below = subst (λ (y : List ℕ). AreBelow (length us) y) (sym e) (below_push (length us) made k (below_more (length ts) (length us) (extends-length ts us x) made m.below) h.within);
      are = ap (map (tree_at us)) e ∙ map_push (tree_at us) made k ∙ (λ j. a j ++ d j ∷ []) ∙ sym (map_push F (map tree (take i kids)) (tree kid)) ∙ ap (map F) (sym c);
    }

instances_forest : (s : ℕ → Tree) (ts : List Tree) → instances s (forest ts) ≡ forest (map (instance s) ts)
instances_forest s [] = refl
instances_forest s (t ∷ ts) = ap (λ (r : Trees). instance s t ▹ r) (instances_forest s ts)

pub filling_end : (old mid new : Arena) (is : List ℕ) (label : ℕ) (made : List ℕ) (flat : Term) (kids : Vec Term Global) (ts : List Term) (i : ℕ) → Filling (trees old) mid is made ts i → length ts ≤ i → ts ≡ kids.items → flat ≡ Node label kids →
    (j : ℕ) → IsHeld mid new j (node label (forest (map (tree_at (trees mid)) made))) → IsHeld old new j (instance (bound_by (map (tree_at (trees old)) is)) (tree flat))
filling_end old mid new is label made flat kids ts i m l e p j h =
    let s = bound_by (map (tree_at (trees old)) is) in
    let a : map (tree_at (trees mid)) made ≡ map (instance s) (map tree kids.items) = m.are ∙ ap (λ (xs : List Term). map (instance s) (map tree xs)) (take_all i ts l ∙ e) in
    held_after old mid new j (node label (forest (map (tree_at (trees mid)) made))) (instance s (tree flat)) m.extends
    (ap (λ (xs : List Tree). node label (forest xs)) a ∙ ap (node label) (sym (instances_forest s (map tree kids.items))) ∙ sym (ap (instance s) (tree-at_node flat label kids p)))
    h

-- a part stands in the place of its variable
part_found : (ts : List Tree) (is : List ℕ) (v k : ℕ) → v < length is → k ≡ get_or is v k → tree_at ts k ≡ bound_by (map (tree_at ts) is) v
part_found ts [] v k l e = absurd (omega arith)
part_found ts (i ∷ is) zero k l e = ap (tree_at ts) e
part_found ts (i ∷ is) (suc v) k l e = part_found ts is v k (omega arith) e

pub filled_part : (a : Arena) (is : List ℕ) (v k : ℕ) (flat : Term) → IsArena a → AreBelow (length (trees a)) is → flat ≡ Var v → v < length is → k ≡ get_or is v k →
    IsHeld a a k (instance (bound_by (map (tree_at (trees a)) is)) (tree flat))
filled_part a is v k flat h b p l e = record {
  arena = h;
  extends = extends-same (trees a);
  within = below_at (length (trees a)) is b v k l e;
  is = part_found (trees a) is v k l e ∙ sym (ap (λ (t : Term). instance (bound_by (map (tree_at (trees a)) is)) (tree t)) p);
}

past_parts : (us : List Tree) (v : ℕ) → length us ≤ v → bound_by us v ≡ node 0 none
past_parts [] v l = refl
past_parts (u ∷ us) zero l = absurd (omega arith)
past_parts (u ∷ us) (suc v) l = past_parts us v (omega arith)

many : (ts : List Tree) (is : List ℕ) → length (map (tree_at ts) is) ≡ length is
many ts [] = refl
many ts (i ∷ is) = let h = many ts is in omega arith

pub filled_past : (old new : Arena) (is kids : List ℕ) (v : ℕ) (flat : Term) → flat ≡ Var v → length is ≤ v → kids ≡ [] → (j : ℕ) →
    IsHeld old new j (node 0 (forest (map (tree_at (trees old)) kids))) → IsHeld old new j (instance (bound_by (map (tree_at (trees old)) is)) (tree flat))
filled_past old new is kids v flat p l e j h =
    let n = many (trees old) is in
    held_after old old new j (node 0 (forest (map (tree_at (trees old)) kids))) (instance (bound_by (map (tree_at (trees old)) is)) (tree flat)) (extends-same (trees old))
    (ap (λ (xs : List ℕ). node 0 (forest (map (tree_at (trees old)) xs))) e ∙ sym (ap (λ (t : Term). instance (bound_by (map (tree_at (trees old)) is)) (tree t)) p ∙ past_parts (map (tree_at (trees old)) is) v (omega arith)))
    h
