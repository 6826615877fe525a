-- Ways to variables, and the depth of a subject.
use Rattle.std.proofs.Common.{◌≡◌, ℕ, suc, ◌+◌, ◌<◌, ◌≤◌, Bool, true, false, List, [], ◌∷◌, ◌++◌, drop, length, get_or, Option, Some, None, Vec, refl, sym, ap, ◌∙◌, append_assoc, arith, subst}
use Rattle.std.specs.declared.alloc.Global.{Global}
use Rattle.sx_term.specs.declared.term.Term.{Term, Node}
use Rattle.sx_term.specs.Tree.{Tree, depth_of}
use Rattle.sx_term.specs.Term.{tree}
use Rattle.sx_term.proofs.Kids.{trees, tree-at_node, trees-drop, trees-drop_all}
use Rattle.sx_rules.specs.Modes.{outputs}
use Rattle.sx_rules.specs.Deep.{AreShallow}
use Rattle.sx_derive.specs.Stuck.{stuck_place_in, place_in_kids, first_place}
use Rattle.sx_derive.specs.Ways.{IsWay}

plus_one : (i : ℕ) → suc i ≡ i + 1
plus_one i = omega arith

module _ (v : ℕ) (term : Term) (label : ℕ) (kids : Vec Term Global) (e : term ≡ Node label kids) (old now : List ℕ) (h : now ≡ old) (i : ℕ) (before : place_in_kids v 0 (trees kids.items) ≡ place_in_kids v i (trees (drop i kids.items))) where
  from_here : stuck_place_in v (tree term) ≡ place_in_kids v i (trees (drop i kids.items))
  from_here = ap (stuck_place_in v) (tree-at_node term label kids e) ∙ before

  -- the way leads through this kid
  pub way_found : (k : Term) (pushed new : List ℕ) (b : Bool) → i < length kids.items → k ≡ get_or kids.items i k → pushed ≡ now ++ i ∷ [] → IsWay pushed new (stuck_place_in v (tree k)) b → b ≡ true → IsWay old new (stuck_place_in v (tree term)) true
  way_found k pushed new b l g p w t =
      subst (λ (o : Option (List ℕ)). IsWay old new o true) (sym (from_here ∙ ap (place_in_kids v i) (trees-drop kids.items i k l g))) (go (stuck_place_in v (tree k)) w)
    where
      go : (o : Option (List ℕ)) → IsWay pushed new o b → IsWay old new (first_place i o (place_in_kids v (suc i) (trees (drop (i + 1) kids.items)))) true
      go None x = let q = x.0 in cc
      go (Some way) x = (refl, x.1 ∙ ap (λ y. y ++ way) (p ∙ ap (λ y. y ++ i ∷ []) h) ∙ append_assoc old (i ∷ []) way)

  -- no kid has the variable
  pub way_none : length kids.items ≤ i → IsWay old now (stuck_place_in v (tree term)) false
  way_none l = subst (λ (o : Option (List ℕ)). IsWay old now o false) (sym (from_here ∙ ap (place_in_kids v i) (trees-drop_all kids.items i l))) (refl, h)

shallow_head : (mask : List Bool) (ts : List Tree) (t : Tree) (rest : List Tree) → AreShallow ts → outputs mask ts ≡ t ∷ rest → depth_of t ≤ 1000
shallow_head [] ts t rest h e = cc
shallow_head (b ∷ mask) [] t rest h e = cc
shallow_head (true ∷ mask) (u ∷ ts) t rest h e = let q : u ≡ t = cc in subst (λ (x : Tree). depth_of x ≤ 1000) q h.0
shallow_head (false ∷ mask) (u ∷ ts) t rest h e = shallow_head mask ts t rest h.1 e

pub shallow_subject : (mask : List Bool) (ts : List Tree) (t : Tree) → AreShallow ts → (rest : List Tree) × (outputs mask ts ≡ t ∷ rest) → depth_of t ≤ 1000
shallow_subject mask ts t h x = shallow_head mask ts t x.0 h x.1
