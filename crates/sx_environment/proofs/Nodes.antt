-- Nodes of environments.
use Rattle.std.proofs.Common.{◌≡◌, ℕ, List, Vec, refl, ap, ◌∙◌}
use Rattle.std.specs.declared.alloc.Global.{Global}
use Rattle.sx_term.specs.declared.term.Term.{Term, Node}
use Rattle.sx_term.specs.Term.{tree}
use Rattle.sx_term.specs.Tree.{node}
use Rattle.sx_term.proofs.Kids.{trees, tree-at_node}

-- a node with these kids
pub node_tree : (label : ℕ) (kids : Vec Term Global) (ts : List Term) → kids.items ≡ ts →
    tree (Node label kids) ≡ node label (trees ts)
node_tree label kids ts e =
    tree-at_node (Node label kids) label kids refl
    ∙ ap (λ (us : List Term). node label (trees us)) e
