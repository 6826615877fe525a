-- Plain images that are compared node by node.
use Rattle.std.proofs.Common.{◌≡◌, ℕ, zero, suc, ◌<◌, ◌≤◌, ◌↔◌, ◌==◌, Bool, true, IsTrue, List, []}
use Rattle.std.proofs.Common.{◌∷◌, Vec, length, get_or, map, Option, Some, None, option_map, refl, sym, ap, ◌∙◌}
use Rattle.std.proofs.Common.{subst, arith}
use Rattle.std.proofs.lemmas.Bool.Decides.{nat_tests}
use Rattle.std.specs.declared.alloc.Global.{Global}
use Rattle.sx_term.specs.declared.term.Term.{Term, Node, Var}
use Rattle.sx_term.specs.Instances.{instance, instances, bound_by}
use Rattle.sx_term.specs.Term.{tree}
use Rattle.sx_term.specs.Limits.{most_depth}
use Rattle.sx_term.specs.Tree.{Tree, Trees, node, none, ◌▹◌, forest, listed, depth_of, greatest_depth}
use Rattle.sx_term.proofs.Kids.{trees, tree-at_node, node-same, greatest_depth-kids, greatest_depth-at}
use Rattle.sx_plain.specs.Plain.{Body, Table, image, images}
use Rattle.sx_plain.proofs.Gathered.{body_image}

-- the kids of a node that is not too deep: they are less deep than it
pub record KidsWithin (t : Term) (ts : List Term) : Type 0 where
  pub less : greatest_depth (trees ts) < depth_of (tree t)
  pub within : greatest_depth (trees ts) < most_depth

pub kids_within : (t : Term) (label : ℕ) (kids : Vec Term Global) (ts : List Term) →
    t ≡ Node label kids → ts ≡ kids.items → depth_of (tree t) ≤ most_depth → KidsWithin t ts
kids_within t label kids ts is at shallow =
    let k = greatest_depth-kids t label kids ts is at in
    record { less = k; within = omega (arith, k, shallow) }

-- one of the terms that are not too deep: it is no deeper than they are
pub record ItemWithin (ts : List Term) (t : Term) : Type 0 where
  pub less : depth_of (tree t) ≤ greatest_depth (trees ts)
  pub within : depth_of (tree t) ≤ most_depth

pub item_within : (ts : List Term) (i : ℕ) (t : Term) → i < length ts → t ≡ get_or ts i t →
    greatest_depth (trees ts) < most_depth → ItemWithin ts t
item_within ts i t below is shallow =
    let k = greatest_depth-at ts i t below is in
    record { less = k; within = omega (arith, k, shallow) }

-- whether a term is another, told of what it equals
pub told_of : {r : Bool} (t u other : Tree) → t ≡ u → (IsTrue r ↔ (t ≡ other)) →
    IsTrue r ↔ (u ≡ other)
told_of {r = r} t u other e h = subst (λ (x : Tree). IsTrue r ↔ (x ≡ other)) e h

-- the image of a node by its label's flat body
pub image_by_flat : (table : Table) (t : Term) (label : ℕ) (kids : Vec Term Global)
    (ts : List Term) (flat : Tree) → t ≡ Node label kids → ts ≡ kids.items →
    option_map (λ (b : Body). b.flat) (table label) ≡ Some flat →
    instance (bound_by (listed (images table (trees ts)))) flat ≡ image table (tree t)
image_by_flat table t label kids ts flat e s found = by_entry (table label) refl found
  where
    by_entry : (o : Option Body) → table label ≡ o →
        option_map (λ (b : Body). b.flat) o ≡ Some flat →
        instance (bound_by (listed (images table (trees ts)))) flat ≡ image table (tree t)
    by_entry None at is = let impossible : None ≡ Some flat = is in cc
    by_entry (Some body) at is =
        let same : flat ≡ body.flat = (let there : Some body.flat ≡ Some flat = is in cc) in
        ap (instance (bound_by (listed (images table (trees ts))))) same
        ∙ body_image table t label kids ts body e s at

images_of : (table : Table) (ts : List Term) →
    images table (trees ts) ≡ forest (map (λ (t : Term). image table (tree t)) ts)
images_of table [] = refl
images_of table (t ∷ ts) = ap (λ (us : Trees). image table (tree t) ▹ us) (images_of table ts)

instances_of : (s : ℕ → Tree) (ts : List Term) →
    instances s (trees ts) ≡ forest (map (λ (t : Term). instance s (tree t)) ts)
instances_of s [] = refl
instances_of s (t ∷ ts) = ap (λ (us : Trees). instance s (tree t) ▹ us) (instances_of s ts)

-- a node with images is another node where the labels and the images are
pub same_images : {r : Bool} (table : Table) (label other : ℕ) (ts us : List Term) (t : Term)
    (kids : Vec Term Global) → t ≡ Node other kids → us ≡ kids.items → label ≡ other →
    (IsTrue r ↔ (map (λ (x : Term). image table (tree x)) ts ≡ map tree us)) →
    IsTrue r ↔ (node label (images table (trees ts)) ≡ tree t)
same_images table label other ts us t kids is at same h =
    node-same (node label (images table (trees ts))) (tree t) label other
    (map (λ (x : Term). image table (tree x)) ts) (map tree us)
    (ap (node label) (images_of table ts))
    (tree-at_node t other kids is ∙ ap (λ (l : List Term). node other (trees l)) (sym at)) same h

-- so is one with instances
pub same_instances : {r : Bool} (s : ℕ → Tree) (label other : ℕ) (ts us : List Term) (t : Term)
    (kids : Vec Term Global) → t ≡ Node other kids → us ≡ kids.items → label ≡ other →
    (IsTrue r ↔ (map (λ (x : Term). instance s (tree x)) ts ≡ map tree us)) →
    IsTrue r ↔ (node label (instances s (trees ts)) ≡ tree t)
same_instances s label other ts us t kids is at same h =
    node-same (node label (instances s (trees ts))) (tree t) label other
    (map (λ (x : Term). instance s (tree x)) ts) (map tree us)
    (ap (node label) (instances_of s ts))
    (tree-at_node t other kids is ∙ ap (λ (l : List Term). node other (trees l)) (sym at)) same h

past : (table : Table) (ts : List Term) (v : ℕ) → length ts ≤ v →
    node 0 none ≡ bound_by (listed (images table (trees ts))) v
past table [] v within = refl
past table (t ∷ ts) zero within = absurd (omega (arith, within))
past table (t ∷ ts) (suc v) within = past table ts v (omega (arith, within))

-- what stands for a variable past the parts
pub past_parts : (table : Table) (ts : List Term) (v : ℕ) (t : Term) → t ≡ Var v → length ts ≤ v →
    node 0 none ≡ instance (bound_by (listed (images table (trees ts)))) (tree t)
past_parts table ts v t is within =
    past table ts v within
    ∙ sym (ap (λ (x : Term). instance (bound_by (listed (images table (trees ts)))) (tree x)) is)

some_none : (n : ℕ) → (suc n == 0) ≡ true → ⊥
some_none n e = grind (arith, nat_tests)

-- whether a node with the label 0 has no kids
pub bare_node : (t : Term) (label : ℕ) (kids : Vec Term Global) (ts : List Term) (r : Bool) →
    t ≡ Node label kids → ts ≡ kids.items → label ≡ 0 → r ≡ (length ts == 0) →
    IsTrue r ↔ (node 0 none ≡ tree t)
bare_node t label kids [] r is at zeroth empty =
    let made : tree t ≡ node 0 none =
    tree-at_node t label kids is ∙ ap (λ (l : List Term). node label (trees l)) (sym at)
    ∙ ap (λ n. node n none) zeroth in
    (λ _. sym made, λ _. empty)
bare_node t label kids (u ∷ us) r is at zeroth empty =
    let made : tree t ≡ node label (tree u ▹ trees us) =
    tree-at_node t label kids is ∙ ap (λ (l : List Term). node label (trees l)) (sym at) in (
      λ true_is. absurd (some_none (length us) (sym empty ∙ true_is)),
      λ e. let impossible : node 0 none ≡ node label (tree u ▹ trees us) = e ∙ made in cc,
    )
