-- Patterns: their instances, and matching.
use Rattle.std.proofs.Common.{◌≡◌, ℕ, suc, ◌+◌, ◌<◌, ◌≤◌, Bool, true, false, List, [], ◌∷◌, ◌++◌, map, take, drop, length, get_or, Option, Some, None, Result, Ok, Err, IfOk, Vec, vec_len, refl, sym, ap, ◌∙◌, arith, subst}
use Rattle.std.proofs.lemmas.Bool.Decides.{Decides-eqb}
use Rattle.std.proofs.lemmas.List.{map_push, map_more, drop_more, drop_all, take_all, length-map, get_or_default}
use Rattle.std.specs.declared.alloc.Global.{Global}
use Rattle.sx_term.specs.Tree.{Tree, Trees, node, hole, ◌▹◌, forest}
use Rattle.sx_term.specs.declared.term.Term.{Term, Node, Var}
use Rattle.sx_term.specs.Term.{tree}
use Rattle.sx_rules.specs.Instances.{instance, instances}
use Rattle.sx_arena.specs.Matching.{Assignment, same, bind, match, match_kids, match_then}
use Rattle.sx_arena.specs.Matching.{match_when, match_variable, filled}
use Rattle.sx_term.proofs.Kids.{tree-at_node}
use Rattle.sx_arena.proofs.Sameness.{same_true, same_self}
use Rattle.sx_arena.specs.declared.arena.Arena.{Arena}
use Rattle.sx_arena.specs.declared.shape.Shape.{Shape}
use Rattle.sx_arena.specs.declared.shape.Shape.TheVariants.{Node as Branch}
use Rattle.sx_arena.specs.declared.binds.Binds.{Binds}
use Rattle.sx_arena.specs.Grown.{Extends}
use Rattle.sx_arena.specs.Arena.{SmallVec, trees, tree_at, shape_tree, IsArena, IsHeld, AreBelow}
use Rattle.sx_arena.specs.Arena.{KidsBelow}
use Rattle.sx_arena.specs.Binds.{envs, env_at, IsBinds, BindsGrow, IsChainFit}
use Rattle.sx_arena.specs.Places.{AreHeld}
use Rattle.sx_arena.proofs.Growing.{extends-same, extends-then, extends-length}
use Rattle.sx_arena.proofs.Arenas.{maps_same, below_more}
use Rattle.sx_arena.proofs.BindChains.{envs_stay, binds_then}

pub lengths_differ : (ps ts : List Tree) (env : Assignment) → (length ps ≡ length ts → ⊥) → match_kids (forest ps) (forest ts) env ≡ None
lengths_differ [] [] env h = absurd (h refl)
lengths_differ [] (t ∷ ts) env h = refl
lengths_differ (p ∷ ps) [] env h = refl
lengths_differ (p ∷ ps) (t ∷ ts) env h = go (match p t env) (λ more. lengths_differ ps ts more (λ e. h (ap suc e)))
  where
    go : (m : Option Assignment) → ((more : Assignment) → match_kids (forest ps) (forest ts) more ≡ None) → match_then m (match_kids (forest ps) (forest ts)) ≡ None
    go None f = refl
    go (Some more) f = f more

pub ok_weaker : {A E : Type 0} (P Q : A → Type 0) → ((x : A) → P x → Q x) → (r : Result A E) → IfOk r P → IfOk r Q
ok_weaker P Q f (Ok x) h = f x h
ok_weaker P Q f (Err e) h = tt

instances_forest : (s : ℕ → Tree) (ts : List Tree) → instances s (forest ts) ≡ forest (map (instance s) ts)
instances_forest s [] = refl
instances_forest s (t ∷ ts) = ap (λ r. instance s t ▹ r) (instances_forest s ts)

pub below_push : (n : ℕ) (is : List ℕ) (k : ℕ) → AreBelow n is → k < n → AreBelow n (is ++ k ∷ [])
below_push n [] k a h = (h, tt)
below_push n (i ∷ is) k a h = (a.0, below_push n is k a.1 h)

-- the kids of an instance that are made so far
pub record Making (start : List Tree) (a : Arena) (b : Binds) (env : ℕ) (parts : List ℕ) (kids : List Term) (i : ℕ) : Type 0 where
  pub arena : IsArena a
  pub extends : Extends start (trees a)
  pub binds : IsBinds (trees a) b
  pub same : envs (trees a) b ≡ envs start b
  pub below : AreBelow (length (trees a)) parts
  pub are : map (tree_at (trees a)) parts ≡ map (instance (filled (env_at (envs start b) env))) (map tree (take i kids))

pub making_none : (a : Arena) (b : Binds) (env : ℕ) (parts : List ℕ) (kids : List Term) → IsArena a → IsBinds (trees a) b → parts ≡ [] → Making (trees a) a b env parts kids 0
making_none a b env parts kids h k e = record {
  arena = h;
  extends = extends-same (trees a);
  binds = k;
  same = refl;
  below = subst (λ (x : List ℕ). AreBelow (length (trees a)) x) (sym e) tt;
  are = ap (map (tree_at (trees a))) e;
}

pub making_more : (start : List Tree) (old new : Arena) (b : Binds) (env : ℕ) (parts more : List ℕ) (kids : List Term) (i k : ℕ) (kid : Term) →
    Making start old b env parts kids i → IsHeld old new k (instance (filled (env_at (envs (trees old) b) env)) (tree kid)) → more ≡ parts ++ k ∷ [] → i < length kids → kid ≡ get_or kids i kid →
    Making start new b env more kids (i + 1)
making_more start old new b env parts more kids i k kid m h e l g =
    let ts = trees old in
    let us = trees new in
    let x = h.extends in
    let s = envs_stay ts us x b m.binds in
    let F = instance (filled (env_at (envs start b) env)) in
    let a : map (tree_at us) parts ≡ map F (map tree (take i kids)) = maps_same ts us x parts m.below ∙ m.are in
    let d : tree_at us k ≡ F (tree kid) = h.is ∙ ap (λ es. instance (filled (env_at es env)) (tree kid)) m.same in
    let c : map tree (take (i + 1) kids) ≡ map tree (take i kids) ++ tree kid ∷ [] = map_more tree kids i kid l ∙ ap (λ y. map tree (take i kids) ++ tree y ∷ []) (sym g) in
    record {
      arena = h.arena;
      extends = extends-then start ts us m.extends x;
      binds = s.1;
      same = s.0 ∙ m.same;
      below = subst (λ (y : List ℕ). AreBelow (length us) y) (sym e) (below_push (length us) parts k (below_more (length ts) (length us) (extends-length ts us x) parts m.below) h.within);
      are = ap (map (tree_at us)) e ∙ map_push (tree_at us) parts k ∙ (λ j. a j ++ d j ∷ []) ∙ sym (map_push F (map tree (take i kids)) (tree kid)) ∙ ap (map F) (sym c);
    }

-- one kid is made, or two
pub making_one : (a new : Arena) (b : Binds) (env k : ℕ) (kids : List Term) (kid : Term) → IsArena a → IsBinds (trees a) b →
    IsHeld a new k (instance (filled (env_at (envs (trees a) b) env)) (tree kid)) → 0 < length kids → kid ≡ get_or kids 0 kid → Making (trees a) new b env (k ∷ []) kids 1
making_one a new b env k kids kid h j m l g = making_more (trees a) a new b env [] (k ∷ []) kids 0 k kid (making_none a b env [] kids h j refl) m refl l g

pub making_two : (start : List Tree) (old new : Arena) (b : Binds) (env first k : ℕ) (kids : List Term) (kid : Term) → Making start old b env (first ∷ []) kids 1 →
    IsHeld old new k (instance (filled (env_at (envs (trees old) b) env)) (tree kid)) → 1 < length kids → kid ≡ get_or kids 1 kid → Making start new b env (first ∷ k ∷ []) kids 2
making_two start old new b env first k kids kid m h l g = making_more start old new b env (first ∷ []) (first ∷ k ∷ []) kids 1 k kid m h refl l g

pub held_after : (old mid new : Arena) (i : ℕ) (t u : Tree) → Extends (trees old) (trees mid) → t ≡ u → IsHeld mid new i t → IsHeld old new i u
held_after old mid new i t u x e h = record {
  arena = h.arena;
  extends = extends-then (trees old) (trees mid) (trees new) x h.extends;
  within = h.within;
  is = h.is ∙ e;
}

-- all of them are made
pub making_all : (old mid : Arena) (b : Binds) (env : ℕ) (parts : List ℕ) (ts : List Term) (i : ℕ) → Making (trees old) mid b env parts ts i → length ts ≤ i →
    AreHeld old mid parts (map (instance (filled (env_at (envs (trees old) b) env))) (map tree ts))
making_all old mid b env parts ts i m l = record {
  arena = m.arena;
  extends = m.extends;
  within = m.below;
  are = m.are ∙ ap (λ xs. map (instance (filled (env_at (envs (trees old) b) env))) (map tree xs)) (take_all i ts l);
}

-- and then their node
pub node_made : (old mid new : Arena) (s : ℕ → Tree) (label : ℕ) (parts : List ℕ) (ts : List Tree) → AreHeld old mid parts (map (instance s) ts) → (j : ℕ) →
    IsHeld mid new j (node label (forest (map (tree_at (trees mid)) parts))) → IsHeld old new j (instance s (node label (forest ts)))
node_made old mid new s label parts ts m j h =
    held_after old mid new j (node label (forest (map (tree_at (trees mid)) parts))) (instance s (node label (forest ts))) m.extends
    (ap (λ xs. node label (forest xs)) m.are ∙ ap (node label) (sym (instances_forest s ts))) h

-- a node against a node
pub match_nodes : (p t : Tree) (l m : ℕ) (ps ts : Trees) (env : Assignment) → p ≡ node l ps → t ≡ node m ts → l ≡ m → match p t env ≡ match_kids ps ts env
match_nodes p t l m ps ts env e f g =
    (λ i. match (e i) (f i) env) ∙ ap (λ (b : Bool). match_when b (match_kids ps ts env)) ((Decides-eqb l m).1 g)

pub kids_of_branch : (n m : ℕ) (s : Shape) (others : SmallVec ℕ) → s ≡ Branch m others → KidsBelow n s → AreBelow n others.items
kids_of_branch n m s others e h = subst (λ (x : Shape). KidsBelow n x) e h

pub nodes_fit : (ts : List Tree) (pattern : Term) (label m term : ℕ) (kids : Vec Term Global) (others : SmallVec ℕ) (s : Shape) (env : Assignment) →
    pattern ≡ Node label kids → tree_at ts term ≡ shape_tree ts s → s ≡ Branch m others → label ≡ m →
    match (tree pattern) (tree_at ts term) env ≡ match_kids (forest (map tree kids.items)) (forest (map (tree_at ts) others.items)) env
nodes_fit ts pattern label m term kids others s env p e f g =
    match_nodes (tree pattern) (tree_at ts term) label m (forest (map tree kids.items)) (forest (map (tree_at ts) others.items)) env
    (tree-at_node pattern label kids p) (e ∙ ap (shape_tree ts) f) g

pub lengths_fit : (ts : List Tree) (kids : List Term) (others : List ℕ) (env : Assignment) → (length kids ≡ length others → ⊥) →
    match_kids (forest (map tree kids)) (forest (map (tree_at ts) others)) env ≡ None
lengths_fit ts kids others env h = lengths_differ (map tree kids) (map (tree_at ts) others) env (λ e. h (sym (length-map kids tree) ∙ e ∙ length-map others (tree_at ts)))

-- kids that are matched so far
pub record Fitting (ts : List Tree) (old new : Binds) (env last : ℕ) (kids : List Term) (others : List ℕ) (i : ℕ) : Type 0 where
  pub grows : BindsGrow ts old new
  pub within : last ≤ length new.cells.items
  pub same : match_kids (forest (map tree kids)) (forest (map (tree_at ts) others)) (env_at (envs ts old) env)
      ≡ match_kids (forest (map tree (drop i kids))) (forest (map (tree_at ts) (drop i others))) (env_at (envs ts new) last)

fitting_at : (ts : List Tree) (env : Assignment) (kids : List Term) (others : List ℕ) (i : ℕ) (kid : Term) (other : ℕ) → i < length kids → length kids ≡ length others → kid ≡ get_or kids i kid → other ≡ get_or others i other →
    match_kids (forest (map tree (drop i kids))) (forest (map (tree_at ts) (drop i others))) env
    ≡ match_then (match (tree kid) (tree_at ts other) env) (match_kids (forest (map tree (drop (i + 1) kids))) (forest (map (tree_at ts) (drop (i + 1) others))))
fitting_at ts env kids others i kid other l e g o =
    let a : drop i kids ≡ kid ∷ drop (i + 1) kids = drop_more kids i kid l ∙ ap (λ k. k ∷ drop (i + 1) kids) (sym g) in
    let b : drop i others ≡ other ∷ drop (i + 1) others = drop_more others i other (omega arith) ∙ ap (λ k. k ∷ drop (i + 1) others) (sym o) in
    λ j. match_kids (forest (map tree (a j))) (forest (map (tree_at ts) (b j))) env

pub fitting_more : (ts : List Tree) (old mid new : Binds) (env last next : ℕ) (kids : List Term) (others : List ℕ) (i : ℕ) (kid : Term) (other : ℕ) →
    Fitting ts old mid env last kids others i → i < length kids → length kids ≡ length others → kid ≡ get_or kids i kid → other ≡ get_or others i other →
    BindsGrow ts mid new → IsChainFit ts new (match (tree kid) (tree_at ts other) (env_at (envs ts mid) last)) (Some next) → Fitting ts old new env next kids others (i + 1)
fitting_more ts old mid new env last next kids others i kid other f l e g o b h = record {
  grows = binds_then ts old mid new f.grows b;
  within = h.0;
  same = f.same ∙ fitting_at ts (env_at (envs ts mid) last) kids others i kid other l e g o
      ∙ ap (λ m. match_then m (match_kids (forest (map tree (drop (i + 1) kids))) (forest (map (tree_at ts) (drop (i + 1) others))))) h.1;
}

pub fitting_none : (ts : List Tree) (old mid : Binds) (env last : ℕ) (kids : List Term) (others : List ℕ) (i : ℕ) (kid : Term) (other : ℕ) →
    Fitting ts old mid env last kids others i → i < length kids → length kids ≡ length others → kid ≡ get_or kids i kid → other ≡ get_or others i other →
    match (tree kid) (tree_at ts other) (env_at (envs ts mid) last) ≡ None → match_kids (forest (map tree kids)) (forest (map (tree_at ts) others)) (env_at (envs ts old) env) ≡ None
fitting_none ts old mid env last kids others i kid other f l e g o h =
    f.same ∙ fitting_at ts (env_at (envs ts mid) last) kids others i kid other l e g o
    ∙ ap (λ m. match_then m (match_kids (forest (map tree (drop (i + 1) kids))) (forest (map (tree_at ts) (drop (i + 1) others))))) h

pub fitting_end : (ts : List Tree) (old new : Binds) (env last : ℕ) (kids : List Term) (others : List ℕ) (i : ℕ) →
    Fitting ts old new env last kids others i → length kids ≤ i → length kids ≡ length others →
    match_kids (forest (map tree kids)) (forest (map (tree_at ts) others)) (env_at (envs ts old) env) ≡ Some (env_at (envs ts new) last)
fitting_end ts old new env last kids others i f l e =
    let a = drop_all i kids l in
    let b = drop_all i others (omega arith) in
    f.same ∙ (λ j. match_kids (forest (map tree (a j))) (forest (map (tree_at ts) (b j))) (env_at (envs ts new) last))

-- a variable
abbrev choose : Assignment → Bool → Option Assignment
choose env b = elim b [ true ↦ Some env | false ↦ None ]

variable_is : (p : Tree) (v : ℕ) (t : Tree) (env : Assignment) (r : Option Tree) → p ≡ hole v → env v ≡ r → match p t env ≡ match_variable r v t env
variable_is p v t env r e f = ap (λ x. match x t env) e ∙ ap (λ x. match_variable x v t env) f

pub variable_bound : (pattern : Term) (v : ℕ) (t u : Tree) (env : Assignment) → pattern ≡ Var v → env v ≡ Some u → u ≡ t → match (tree pattern) t env ≡ Some env
variable_bound pattern v t u env p e f =
    variable_is (tree pattern) v t env (Some u) (ap tree p) e
    ∙ ap (choose env) (ap (λ x. same x t) f ∙ same_self t)

pub variable_other : (pattern : Term) (v : ℕ) (t u : Tree) (env : Assignment) → pattern ≡ Var v → env v ≡ Some u → (u ≡ t → ⊥) → match (tree pattern) t env ≡ None
variable_other pattern v t u env p e f = variable_is (tree pattern) v t env (Some u) (ap tree p) e ∙ go (same u t) refl
  where
    go : (b : Bool) → same u t ≡ b → match_variable (Some u) v t env ≡ None
    go true g = absurd (f (same_true u t g))
    go false g = ap (choose env) g

pub variable_new : (pattern : Term) (v : ℕ) (t : Tree) (env : Assignment) → pattern ≡ Var v → env v ≡ None → match (tree pattern) t env ≡ Some (bind env v t)
variable_new pattern v t env p e = variable_is (tree pattern) v t env None (ap tree p) e

pub same_lengths : (kids : Vec Term Global) (others : SmallVec ℕ) (m n : ℕ) → m ≡ vec_len kids → n ≡ length others.items → m ≡ n → length kids.items ≡ length others.items
same_lengths kids others m n e f g = let a = kids.ok in omega arith

pub other_lengths : (kids : Vec Term Global) (others : SmallVec ℕ) (m n : ℕ) → m ≡ vec_len kids → n ≡ length others.items → (m ≡ n → ⊥) → length kids.items ≡ length others.items → ⊥
other_lengths kids others m n e f g h = let a = kids.ok in g (omega arith)

pub other_is : (is others : List ℕ) (i : ℕ) → is ≡ others → i < length others → get_or is i 0 ≡ get_or others i (get_or is i 0)
other_is is others i e l = ap (λ xs. get_or xs i 0) e ∙ get_or_default others i 0 (get_or is i 0) l
