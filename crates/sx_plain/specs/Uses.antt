-- What a flat body does with its parts.
use Rattle.std.specs.Prelude.{◌≡◌, ℕ, zero, suc, ◌+◌, ◌*◌, ◌≤◌, max, List, [], ◌∷◌, length}
use Rattle.sx_term.specs.Tree.{Tree, Trees, node, lexeme, hole, none, ◌▹◌}
use Rattle.sx_plain.specs.declared.part_use.PartUse.{PartUse}
use Rattle.sx_plain.specs.Measures.{depth_with, size_with}
use Rattle.sx_term.specs.Limits.{most_depth}

-- no part is used yet
abbrev pub unused_parts : ℕ → List PartUse
unused_parts zero = []
unused_parts (suc n) = record { times = 0; above = 0 } ∷ unused_parts n

-- the use of a part that stands once more, under so many nodes
abbrev pub once_more : ℕ → PartUse → PartUse
once_more above u = record { times = u.times + 1; above = max u.above above }

-- the part with this number stands once more, under so many nodes
abbrev pub use_noted_at : ℕ → ℕ → List PartUse → List PartUse
use_noted_at above v [] = []
use_noted_at above zero (u ∷ us) = once_more above u ∷ us
use_noted_at above (suc v) (u ∷ us) = u ∷ use_noted_at above v us

abbrev mutual
  -- the uses with those in the term, which stands under so many nodes
  pub noted : ℕ → Tree → List PartUse → List PartUse
  noted above (node label kids) us = noted_all (above + 1) kids us
  noted above (lexeme kind text) us = us
  noted above (hole v) us = use_noted_at above v us

  -- with those in each of the terms
  pub noted_all : ℕ → Trees → List PartUse → List PartUse
  noted_all above none us = us
  noted_all above (t ▹ ts) us = noted_all above ts (noted above t us)

abbrev mutual
  -- the number of nodes and lexemes
  pub own_size : Tree → ℕ
  own_size (node label kids) = own_sizes kids + 1
  own_size (lexeme kind text) = 1
  own_size (hole v) = 0

  -- all of these
  pub own_sizes : Trees → ℕ
  own_sizes none = 0
  own_sizes (t ▹ ts) = own_size t + own_sizes ts

-- the greatest number of times that a part is used
abbrev pub most_times : List PartUse → ℕ
most_times [] = 0
most_times (u ∷ us) = max u.times (most_times us)

-- how deep the parts reach, by their depths
abbrev pub used_depth : List PartUse → List ℕ → ℕ
used_depth [] ds = 0
used_depth (u ∷ us) [] = 0
used_depth (u ∷ us) (d ∷ ds) = max (u.above + d) (used_depth us ds)

-- how much the parts add, by their sizes
abbrev pub used_size : List PartUse → List ℕ → ℕ
used_size [] ns = 0
used_size (u ∷ us) [] = 0
used_size (u ∷ us) (n ∷ ns) = u.times * n + used_size us ns

-- no part stands under more than 1,000 nodes
abbrev pub AreNear : List PartUse → Type 0
AreNear [] = Unit {0}
AreNear (u ∷ us) = (u.above ≤ most_depth) × AreNear us

-- each of the numbers is at least 1
abbrev pub ArePositive : List ℕ → Type 0
ArePositive [] = Unit {0}
ArePositive (n ∷ ns) = (1 ≤ n) × ArePositive ns

-- by these numbers each instance of the flat body can be measured
pub record IsMeasured (flat : Tree) (own depth : ℕ) (uses : List PartUse) : Type 0 where
  pub near : AreNear uses
  pub sizes : (ns : List ℕ) → length ns ≡ length uses → size_with ns flat ≡ own + used_size uses ns
  pub depths : (ds : List ℕ) → length ds ≡ length uses → ArePositive ds →
      depth_with ds flat ≡ max depth (used_depth uses ds)
