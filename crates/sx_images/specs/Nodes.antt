-- Nodes by the numbers of their kids.
use Rattle.std.specs.Prelude.{◌≡◌, List, map, length, Option, Some, None}
use Rattle.sx_term.specs.Tree.{Tree, node, lexeme, hole, forest}
use Rattle.sx_arena.specs.Arena.{tree_at, AreBelow}
use Rattle.sx_images.specs.declared.node.Node.{Node}

-- the term is a lexeme or a variable
abbrev pub IsLeaf : Tree → Type 0
IsLeaf (node label kids) = ⊥
IsLeaf (lexeme kind text) = Unit {0}
IsLeaf (hole v) = Unit {0}

-- the term is the node, or it is none
abbrev pub IsNodeAt : List Tree → Tree → Option Node → Type 0
IsNodeAt ts t None = IsLeaf t
IsNodeAt ts t (Some n) = AreBelow (length ts) n.kids.items ×
    (t ≡ node n.label (forest (map (tree_at ts) n.kids.items)))
