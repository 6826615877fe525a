-- What is put for the variables of a rule before the subjects of its premises are: plain images.
use Rattle.std.specs.Prelude.{◌≡◌, ◌≤◌, List, [], ◌∷◌}
use Rattle.sx_term.specs.Tree.{Tree, node, none, depth_of}
use Rattle.sx_term.specs.Term.{tree}
use Rattle.sx_term.specs.declared.sort.Sort.{Sort}
use Rattle.sx_term.specs.declared.sort.Sort.TheVariants.{Lex, Plain, Typed}
use Rattle.sx_plain.specs.Plain.{Table, image}
use Rattle.sx_rewrite.specs.declared.put_term.PutTerm.{PutTerm}
use Rattle.sx_rewrite.specs.Puts.{IsMeasureOf, IsSmallTerm}
use Rattle.sx_term.specs.Limits.{most_depth}

-- the term is put: it is measured, and made where it passes no limit
pub record IsTermPut (t : Tree) (p : PutTerm) : Type 0 where
  pub measured : IsMeasureOf t p.measure
  pub made : IsSmallTerm t → tree p.term ≡ t
  pub shallow : depth_of (tree p.term) ≤ most_depth
  pub low : p.measure.depth ≤ 1001000

-- the plain image of what is bound to a variable of the sort; for a typed sort a node without kids
abbrev pub image_for : Table → Sort → Tree → Tree
image_for table (Lex kind) t = image table t
image_for table (Plain n) t = image table t
image_for table (Typed k) t = node 0 none

-- so it is for each variable
abbrev pub images_for : Table → List Sort → List Tree → List Tree
images_for table (sort ∷ sorts) (t ∷ ts) = image_for table sort t ∷ images_for table sorts ts
images_for table _ _ = []
