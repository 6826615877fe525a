-- What a plain table is, and which terms it is for.
use Rattle.std.specs.Prelude.{◌≡◌, ◌↔◌, ℕ, ◌<◌, List, ◌++◌, ◌⊎◌, length, slice_get, Option, Some}
use Rattle.std.specs.Prelude.{None, IsSome}
use Rattle.sx_term.specs.Tree.{Tree, Trees, node, lexeme, hole, none, ◌▹◌, listed}
use Rattle.sx_term.specs.Sorts.{Shape, HasSort}
use Rattle.sx_term.specs.Instances.{Stands}
use Rattle.sx_term.specs.Untyped.{IsUntypedSort}
use Rattle.sx_plain.specs.Plain.{Body, Table}

abbrev mutual
  -- each label of the term is below the number; where that is the number of base labels, the term
  -- is base
  pub LabelsBelow : ℕ → Tree → Type 0
  LabelsBelow n (node label kids) = (label < n) × AllLabelsBelow n kids
  LabelsBelow n (lexeme kind text) = Unit {0}
  LabelsBelow n (hole v) = Unit {0}

  -- the same of each term
  pub AllLabelsBelow : ℕ → Trees → Type 0
  AllLabelsBelow n none = Unit {0}
  AllLabelsBelow n (t ▹ ts) = LabelsBelow n t × AllLabelsBelow n ts

-- the flat body is base, and its variables are just its parts: each of them is used
pub record IsFlat (base : ℕ) (body : Body) : Type 0 where
  pub labels : LabelsBelow base body.flat
  pub parts : (v : ℕ) → Stands v body.flat ↔ (v < body.arity)

-- a plain table: no base label has an entry, and each entry is flat
pub record IsPlainTable (base : ℕ) (table : Table) : Type 0 where
  pub keeps_base : (label : ℕ) → label < base → table label ≡ None
  pub flat : (label : ℕ) (body : Body) → table label ≡ Some body → IsFlat base body

-- a node has as many parts as the entry of its label asks for
abbrev pub HasParts : Option Body → Trees → Type 0
HasParts None kids = Unit {0}
HasParts (Some body) kids = length (listed kids) ≡ body.arity

abbrev mutual
  -- each node whose label has an entry has as many parts as the entry asks for
  pub FitsTable : Table → Tree → Type 0
  FitsTable table (node label kids) = HasParts (table label) kids × FitTable table kids
  FitsTable table (lexeme kind text) = Unit {0}
  FitsTable table (hole v) = Unit {0}

  -- the same of each term
  pub FitTable : Table → Trees → Type 0
  FitTable table none = Unit {0}
  FitTable table (t ▹ ts) = FitsTable table t × FitTable table ts

abbrev mutual
  -- each label of the term is base or has an entry
  pub IsCovered : ℕ → Table → Tree → Type 0
  IsCovered base table (node label kids) = ((label < base) ⊎ IsSome (table label)) ×
      AreCovered base table kids
  IsCovered base table (lexeme kind text) = Unit {0}
  IsCovered base table (hole v) = Unit {0}

  -- the same of each term
  pub AreCovered : ℕ → Table → Trees → Type 0
  AreCovered base table none = Unit {0}
  AreCovered base table (t ▹ ts) = IsCovered base table t × AreCovered base table ts

-- the shapes are those of the base, and more after them
abbrev pub Begins : List Shape → List Shape → Type 0
Begins base shapes = (more : List Shape) × (shapes ≡ base ++ more)

-- the flat body has by the base shapes the sort of the constructor, where variable n has the sort
-- of part n
pub record IsBodyFor (base : List Shape) (shape : Shape) (body : Body) : Type 0 where
  pub many : body.arity ≡ length shape.kids
  pub sorted : HasSort base shape.kids body.flat shape.sort

-- each entry is of a plain constructor of the shapes, and its body has the constructor's sort
abbrev pub HasBodies : List Shape → List Shape → Table → Type 0
HasBodies base shapes table = (label : ℕ) (body : Body) → table label ≡ Some body →
    (shape : Shape) × (slice_get shapes label ≡ Some shape) × IsUntypedSort shape.sort ×
    IsBodyFor base shape body

-- the table has just the plain constructors of the shapes that are not base, each with a body of
-- its sort
pub record Desugars (base shapes : List Shape) (table : Table) : Type 0 where
  pub is_table : IsPlainTable (length base) table
  pub bodies : HasBodies base shapes table
  pub every : (label : ℕ) (shape : Shape) → slice_get shapes label ≡ Some shape →
      IsUntypedSort shape.sort → (label < length base) ⊎ IsSome (table label)
