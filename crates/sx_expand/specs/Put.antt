-- Terms that are put for variables, by their numbers.
use Rattle.std.specs.Prelude.{◌≡◌, ℕ, ◌<◌, ◌≤◌, List, map, length}
use Rattle.sx_term.specs.Tree.{Tree}
use Rattle.sx_plain.specs.declared.measure.Measure.{Measure}
use Rattle.sx_plain.specs.Measures.{greatest}
use Rattle.sx_plain.specs.PartMeasures.{depths_of}
use Rattle.sx_arena.specs.Arena.{tree_at, AreBelow}
use Rattle.sx_rewrite.specs.Puts.{IsMeasureOf, AreMeasuresOf, IsSmallTerm, AreMadeOf}
use Rattle.sx_expand.specs.declared.put_number.PutNumber.{PutNumber}

-- the term is put: it is measured, and stands at the number where it passes no limit
pub record IsPutAt (terms : List Tree) (t : Tree) (p : PutNumber) : Type 0 where
  pub within : p.number < length terms
  pub measured : IsMeasureOf t p.measure
  pub made : IsSmallTerm t → tree_at terms p.number ≡ t
  pub low : p.measure.depth ≤ 1001000

-- so it is of each of the terms
pub record ArePutAt (terms more : List Tree) (numbers : List ℕ) (measures : List Measure) :
    Type 0 where
  pub below : AreBelow (length terms) numbers
  pub measured : AreMeasuresOf more measures
  pub made : AreMadeOf more (map (tree_at terms) numbers)
  pub low : greatest (depths_of measures) ≤ 1001000
