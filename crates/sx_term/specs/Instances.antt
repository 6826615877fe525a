-- Instances of terms by a substitution, and the variables that stand in them.
use Rattle.std.specs.Prelude.{◌≡◌, ℕ, List, [], ◌∷◌, ◌⊎◌, slice_index_or}
use Rattle.sx_term.specs.Tree.{Tree, Trees, node, lexeme, hole, none, ◌▹◌}

-- the instance of a term: each variable v gives way to s v
abbrev mutual
  pub instance : (ℕ → Tree) → Tree → Tree
  instance s (node label kids) = node label (instances s kids)
  instance s (lexeme kind text) = lexeme kind text
  instance s (hole v) = s v

  -- the same of each term
  pub instances : (ℕ → Tree) → Trees → Trees
  instances s none = none
  instances s (t ▹ ts) = instance s t ▹ instances s ts

-- the variable v stands in the term
abbrev mutual
  pub Stands : ℕ → Tree → Type 0
  Stands v (node label kids) = StandsInKids v kids
  Stands v (lexeme kind text) = ⊥
  Stands v (hole w) = v ≡ w

  -- the variable v stands in one of the terms
  pub StandsInKids : ℕ → Trees → Type 0
  StandsInKids v none = ⊥
  StandsInKids v (t ▹ ts) = Stands v t ⊎ StandsInKids v ts

-- the variable v stands in one of the terms of a list
abbrev pub StandsAmong : ℕ → List Tree → Type 0
StandsAmong v [] = ⊥
StandsAmong v (t ∷ ts) = Stands v t ⊎ StandsAmong v ts

-- the substitution that a list of terms states; past its end stands a term without variables
abbrev pub bound_by : List Tree → ℕ → Tree
bound_by binds v = slice_index_or binds v (node 0 none)
