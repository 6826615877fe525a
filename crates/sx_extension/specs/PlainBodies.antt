-- The plain bodies of an extension.
use Rattle.std.specs.Prelude.{◌≡◌, ℕ, ◌≤◌, List, length, slice_get, Some}
use Rattle.sx_term.specs.Tree.{Tree, depth_of}
use Rattle.sx_term.specs.Term.{tree}
use Rattle.sx_term.specs.Sorts.{Shape, HasSort}
use Rattle.sx_term.specs.Untyped.{IsUntypedSort}
use Rattle.sx_extension.specs.declared.plain_body.PlainBody.{PlainBody}
use Rattle.sx_term.specs.Limits.{most_depth}

-- a plain body: the label of its constructor, how many parts that has, and the term, in which
-- variable n is part n
pub record BodyData : Type 0 where
  pub label : ℕ
  pub parts : ℕ
  pub term : Tree

-- a plain body as plain data
abbrev pub body_data : PlainBody → BodyData
body_data b = record { label = b.label; parts = b.parts; term = tree b.term }

-- the constructor is a plain one, of those from the number on, and the term has its sort
pub record IsBodyOf (shapes : List Shape) (first : ℕ) (b : BodyData) : Type 0 where
  pub new : first ≤ b.label
  pub shape : Shape
  pub is : slice_get shapes b.label ≡ Some shape
  pub plain : IsUntypedSort shape.sort
  pub many : b.parts ≡ length shape.kids
  pub sorted : HasSort shapes shape.kids b.term shape.sort
  pub shallow : depth_of b.term ≤ most_depth
