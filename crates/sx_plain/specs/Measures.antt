-- How deep and how big an instance is, by what is put for the variables.
use Rattle.std.specs.Prelude.{ℕ, ◌+◌, max, List, [], ◌∷◌, map, slice_index_or, Option, Some, None}
use Rattle.sx_term.specs.Tree.{Tree, Trees, node, lexeme, hole, none, ◌▹◌, depth_of, size_of}
use Rattle.sx_plain.specs.Plain.{Body, Table, image}

-- the depth of an instance, by the depths of what is put for the variables
abbrev mutual
  pub depth_with : List ℕ → Tree → ℕ
  depth_with ds (node label kids) = greatest_with ds kids + 1
  depth_with ds (lexeme kind text) = 1
  depth_with ds (hole v) = slice_index_or ds v 1

  -- the greatest of these
  pub greatest_with : List ℕ → Trees → ℕ
  greatest_with ds none = 0
  greatest_with ds (t ▹ ts) = max (depth_with ds t) (greatest_with ds ts)

-- the size of an instance, by the sizes of what is put for the variables
abbrev mutual
  pub size_with : List ℕ → Tree → ℕ
  size_with ns (node label kids) = total_with ns kids + 1
  size_with ns (lexeme kind text) = 1
  size_with ns (hole v) = slice_index_or ns v 1

  -- all of these
  pub total_with : List ℕ → Trees → ℕ
  total_with ns none = 0
  total_with ns (t ▹ ts) = size_with ns t + total_with ns ts

-- the greatest of the numbers, or 0 of none
abbrev pub greatest : List ℕ → ℕ
greatest [] = 0
greatest (d ∷ ds) = max d (greatest ds)

-- their sum
abbrev pub total : List ℕ → ℕ
total [] = 0
total (n ∷ ns) = n + total ns

-- the depth of the image of a node, by the depths of the images of its parts
abbrev pub node_depth : Option Body → List ℕ → ℕ
node_depth None ds = greatest ds + 1
node_depth (Some body) ds = depth_with ds body.flat

-- its size, by their sizes
abbrev pub node_size : Option Body → List ℕ → ℕ
node_size None ns = total ns + 1
node_size (Some body) ns = size_with ns body.flat

-- the depths of the images
abbrev pub image_depths : Table → List Tree → List ℕ
image_depths table ts = map (λ t. depth_of (image table t)) ts

-- their sizes
abbrev pub image_sizes : Table → List Tree → List ℕ
image_sizes table ts = map (λ t. size_of (image table t)) ts
