-- Plain images of terms.
use Rattle.std.specs.Prelude.{ℕ, Option, Some, None}
use Rattle.sx_term.specs.Tree.{Tree, Trees, node, lexeme, hole, none, ◌▹◌, listed}
use Rattle.sx_term.specs.Instances.{instance, bound_by}

-- what stands for a constructor: how many parts it has, and its flat body, in which variable n is
-- part n
pub record Body : Type 0 where
  pub arity : ℕ
  pub flat : Tree

-- for each label what stands for its constructor, if anything does
abbrev pub Table : Type 0
Table = ℕ → Option Body

-- a node whose parts are images: the flat body with them, where there is one, or the node as it is
abbrev pub image_node : Option Body → ℕ → Trees → Tree
image_node None label kids = node label kids
image_node (Some body) label kids = instance (bound_by (listed kids)) body.flat

-- the plain image of a term: each constructor that has a body gives way to it, with the images of
-- its parts
abbrev mutual
  pub image : Table → Tree → Tree
  image table (node label kids) = image_node (table label) label (images table kids)
  image table (lexeme kind text) = lexeme kind text
  image table (hole v) = hole v

  -- the same of each term
  pub images : Table → Trees → Trees
  images table none = none
  images table (t ▹ ts) = image table t ▹ images table ts
