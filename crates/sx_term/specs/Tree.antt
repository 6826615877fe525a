-- Terms as plain data, and what is said of them.
use Rattle.std.specs.Prelude.{◌≡◌, refl, ℕ, ◌+◌, List, [], ◌∷◌, max, Option, Some, slice_get}
use Rattle.std.specs.Prelude.{option_and_then}
use Rattle.sx_term.specs.declared.lex_kind.LexKind.{LexKind}

infixr 40 ◌▹◌
mutual
  -- a term as plain data: a node with its label and kids, a lexeme with its kind and bytes, a
  -- variable with its number
  pub data Tree : Type 0 where
    node : ℕ → Trees → Tree
    lexeme : LexKind → List ℕ → Tree
    hole : ℕ → Tree

  -- terms one after another
  pub data Trees : Type 0 where
    none : Trees
    ◌▹◌ : Tree → Trees → Trees

-- the trees of a list, one after another
abbrev pub forest : List Tree → Trees
forest [] = none
forest (t ∷ ts) = t ▹ forest ts

-- the list of the trees
abbrev pub listed : Trees → List Tree
listed none = []
listed (t ▹ ts) = t ∷ listed ts

abbrev mutual
  -- 1 for a lexeme, a variable or a node without kids; 1 more than the deepest kid for another node
  pub depth_of : Tree → ℕ
  depth_of (node label kids) = greatest_depth kids + 1
  depth_of (lexeme kind text) = 1
  depth_of (hole variable) = 1

  -- the depth of the deepest, or 0 of none
  pub greatest_depth : Trees → ℕ
  greatest_depth none = 0
  greatest_depth (t ▹ ts) = max (depth_of t) (greatest_depth ts)

abbrev mutual
  -- the number of nodes, lexemes and variables
  pub size_of : Tree → ℕ
  size_of (node label kids) = total_size kids + 1
  size_of (lexeme kind text) = 1
  size_of (hole variable) = 1

  -- the sizes in all
  pub total_size : Trees → ℕ
  total_size none = 0
  total_size (t ▹ ts) = size_of t + total_size ts

-- `(0 (1 ?0) ?1)`
example_depth : depth_of (node 0 (node 1 (hole 0 ▹ none) ▹ hole 1 ▹ none)) ≡ 3
example_depth = refl

example_size : size_of (node 0 (node 1 (hole 0 ▹ none) ▹ hole 1 ▹ none)) ≡ 4
example_size = refl

-- the kids of a node, or none
abbrev pub kids_of : Tree → List Tree
kids_of (node label kids) = listed kids
kids_of (lexeme kind text) = []
kids_of (hole variable) = []

-- the part to which the steps lead, each the number of a kid from 0
abbrev pub part_at : Tree → List ℕ → Option Tree
part_at t [] = Some t
part_at t (i ∷ path) = option_and_then (λ kid. part_at kid path) (slice_get (kids_of t) i)
