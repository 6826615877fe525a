-- Variables that are bound, and stay so.
use Rattle.std.proofs.Common.{◌≡◌, ℕ, zero, suc, ◌+◌, ◌≤◌, ◌<◌, ◌&&◌, Bool, true, false, List, [], ◌∷◌, map, drop, length, get_or, Option, Some, None, Vec, refl, sym, ap, ◌∙◌, arith, subst}
use Rattle.std.specs.Prelude.{is_some, slice_get}
use Rattle.std.specs.declared.alloc.Global.{Global}
use Rattle.std.proofs.lemmas.List.{drop_all, length-map}
use Rattle.sx_term.specs.Tree.{Tree, Trees, node, lexeme, hole, none, ◌▹◌}
use Rattle.sx_term.specs.Term.{tree}
use Rattle.sx_term.specs.declared.term.Term.{Term, Node, Var}
use Rattle.sx_term.proofs.Kids.{trees, tree-at_node, trees-drop, trees-drop_all}
use Rattle.sx_rules.specs.Instances.{instance, instances}
use Rattle.sx_rules.specs.Deep.{PremiseIsShallow, PremisesAreShallow}
use Rattle.sx_rules.specs.Rules.{Judgement, Premise, judgement_instance}
use Rattle.sx_rules.specs.Modes.{Modes, inputs_of}
use Rattle.sx_rules.proofs.Moded.{inputs-map}
use Rattle.sx_arena.specs.Binds.{IsBoundTerm}
use Rattle.sx_arena.specs.Matching.{Assignment, ExtendsAssignment, value_or, filled}
use Rattle.sx_arena.specs.Places.{selected}
use Rattle.sx_arena.proofs.Placed.{selected_more, selected_less, selected_none, maps_drop, get_at}
use Rattle.sx_derive.specs.Binding.{binds_term, binds_kids, binds_terms}

pub both_true : (a b : Bool) → a && b ≡ true → (a ≡ true) × (b ≡ true)
both_true true true e = (refl, refl)
both_true true false e = cc
both_true false b e = cc

-- a term all of whose variables are bound has one instance under all that extends the bindings
module _ (env later : Assignment) (extends : ExtendsAssignment env later) where
  value_same : (o : Option Tree) (v : ℕ) → env v ≡ o → is_some o ≡ true → value_or (later v) ≡ value_or (env v)
  value_same None v e b = cc
  value_same (Some u) v e b = ap value_or (extends v u e ∙ sym e)

  mutual
    pub instance_same : (t : Tree) → binds_term env t ≡ true → instance (filled later) t ≡ instance (filled env) t
    instance_same (node label kids) b = ap (node label) (instances_same kids b)
    instance_same (lexeme kind text) b = refl
    instance_same (hole v) b = value_same (env v) v refl b

    instances_same : (ts : Trees) → binds_kids env ts ≡ true → instances (filled later) ts ≡ instances (filled env) ts
    instances_same none b = refl
    instances_same (t ▹ ts) b =
        let p = both_true (binds_term env t) (binds_kids env ts) b in
        λ i. instance_same t p.0 i ▹ instances_same ts p.1 i

  terms_same : (ts : List Tree) → binds_terms env ts ≡ true → map (instance (filled later)) ts ≡ map (instance (filled env)) ts
  terms_same [] b = refl
  terms_same (t ∷ ts) b =
      let p = both_true (binds_term env t) (binds_terms env ts) b in
      λ i. instance_same t p.0 i ∷ terms_same ts p.1 i

  -- so do the inputs of a judgement
  pub inputs_same : (modes : Modes) (j : Judgement) → binds_terms env (inputs_of modes j) ≡ true →
      inputs_of modes (judgement_instance (filled later) j) ≡ inputs_of modes (judgement_instance (filled env) j)
  inputs_same modes j b =
      inputs-map (filled later) (modes j.form) j.places ∙ terms_same (inputs_of modes j) b ∙ sym (inputs-map (filled env) (modes j.form) j.places)

-- a variable is bound where a term is found for it
pub var_bound : (ts : List Tree) (env : Assignment) (t : Term) (v : ℕ) (x : Option ℕ) (b : Bool) → t ≡ Var v → IsBoundTerm ts (env v) x → b ≡ is_some x → b ≡ binds_term env (tree t)
var_bound ts env t v x b e h r = r ∙ go (env v) x h ∙ ap (λ (u : Term). binds_term env (tree u)) (sym e)
  where
    go : (o : Option Tree) (y : Option ℕ) → IsBoundTerm ts o y → is_some y ≡ is_some o
    go o None k = ap (λ (z : Option Tree). is_some z) (sym k)
    go o (Some i) k = ap (λ (z : Option Tree). is_some z) (sym k.1)

-- the kids from one on
pub kids_more : (env : Assignment) (ts : List Term) (i : ℕ) (t : Term) → i < length ts → t ≡ get_or ts i t → binds_kids env (trees (drop i ts)) ≡ binds_term env (tree t) && binds_kids env (trees (drop (i + 1) ts))
kids_more env ts i t l e = ap (binds_kids env) (trees-drop ts i t l e)

pub kids_end : (env : Assignment) (ts : List Term) (i : ℕ) → length ts ≤ i → binds_kids env (trees (drop i ts)) ≡ true
kids_end env ts i l = ap (binds_kids env) (trees-drop_all ts i l)

pub node_bound : (env : Assignment) (t : Term) (label : ℕ) (kids : Vec Term Global) (ts : List Term) → t ≡ Node label kids → ts ≡ kids.items → binds_term env (tree t) ≡ binds_kids env (trees ts)
node_bound env t label kids ts e s = ap (binds_term env) (tree-at_node t label kids e) ∙ ap (λ (xs : List Term). binds_kids env (trees xs)) (sym s)

pub and_true : (a b : Bool) → a ≡ true → a && b ≡ b
and_true true b e = refl
and_true false b e = cc

pub and_false : (a b : Bool) → a ≡ false → a && b ≡ false
and_false true b e = cc
and_false false b e = refl

-- the inputs from a place on
pub places_skip : (env : Assignment) (mask : List Bool) (ps : List Term) (i : ℕ) → i < length ps → get_or mask i false ≡ true →
    binds_terms env (selected false (drop i mask) (drop i (map tree ps))) ≡ binds_terms env (selected false (drop (i + 1) mask) (drop (i + 1) (map tree ps)))
places_skip env mask ps i l o =
    let p = get_at ps i l in
    ap (binds_terms env) (selected_less false mask (map tree ps) i (tree p.0) (maps_drop tree ps i p.0 l p.1) (λ q. let z : true ≡ false = sym o ∙ q in let y : ⊥ = cc in y))

pub places_more : (env : Assignment) (mask : List Bool) (ps : List Term) (i : ℕ) (p : Term) → i < length ps → p ≡ get_or ps i p → get_or mask i false ≡ false →
    binds_terms env (selected false (drop i mask) (drop i (map tree ps))) ≡ binds_term env (tree p) && binds_terms env (selected false (drop (i + 1) mask) (drop (i + 1) (map tree ps)))
places_more env mask ps i p l e o = ap (binds_terms env) (selected_more false mask (map tree ps) i (tree p) (maps_drop tree ps i p l e) o)

pub places_end : (env : Assignment) (mask : List Bool) (ps : List Term) (i : ℕ) → length ps ≤ i → binds_terms env (selected false (drop i mask) (drop i (map tree ps))) ≡ true
places_end env mask ps i l =
    let n = length-map ps tree in
    ap (λ (ts : List Tree). binds_terms env (selected false (drop i mask) ts)) (drop_all i (map tree ps) (omega arith)) ∙ ap (binds_terms env) (selected_none false (drop i mask))

-- a premise that is there is shallow
pub premise_shallow : (ps : List Premise) (k : ℕ) (p : Premise) → PremisesAreShallow ps → slice_get ps k ≡ Some p → PremiseIsShallow p
premise_shallow [] k p h e = cc
premise_shallow (q ∷ ps) zero p h e = let same_premise : q ≡ p = cc in subst PremiseIsShallow same_premise h.0
premise_shallow (q ∷ ps) (suc k) p h e = premise_shallow ps k p h.1 e
