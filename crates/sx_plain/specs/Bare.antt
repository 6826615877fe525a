-- Nodes that give way to one of their kids as it is.
use Rattle.std.specs.Prelude.{Bool, false, ◌||◌, List, Option, None, Some, slice_get, is_some}
use Rattle.sx_term.specs.Tree.{Tree, Trees, node, lexeme, hole, none, ◌▹◌, listed}
use Rattle.sx_plain.specs.Plain.{Body, Table}

-- the kid that a flat body is, where it is a part alone
abbrev pub part_alone : List Tree → Tree → Option Tree
part_alone kids (node label parts) = None
part_alone kids (lexeme kind text) = None
part_alone kids (hole v) = slice_get kids v

-- the kid to which a node gives way, by what stands for its constructor
abbrev pub bare_kid : Option Body → List Tree → Option Tree
bare_kid None kids = None
bare_kid (Some body) kids = part_alone kids body.flat

-- the kid to which a term gives way
abbrev pub bare_under : Table → Tree → Option Tree
bare_under table (node label kids) = bare_kid (table label) (listed kids)
bare_under table (lexeme kind text) = None
bare_under table (hole v) = None

abbrev mutual
  -- whether a node of the term gives way to a kid
  pub gives_way : Table → Tree → Bool
  gives_way table (node label kids) =
      is_some (bare_kid (table label) (listed kids)) || have_bare table kids
  gives_way table (lexeme kind text) = false
  gives_way table (hole v) = false

  -- whether one of the terms has such a node
  pub have_bare : Table → Trees → Bool
  have_bare table none = false
  have_bare table (t ▹ ts) = gives_way table t || have_bare table ts
