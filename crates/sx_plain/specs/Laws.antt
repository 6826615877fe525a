-- Laws of plain images.
use Rattle.std.specs.Prelude.{◌≡◌, ◌↔◌, ℕ, ◌<◌, List, length, slice_get, Some, Ok}
use Rattle.sx_term.specs.Tree.{Tree}
use Rattle.sx_term.specs.declared.lex_kind.LexKind.{LexKind}
use Rattle.sx_term.specs.declared.sort.Sort.{Sort}
use Rattle.sx_term.specs.declared.sort.Sort.TheVariants.{Lex}
use Rattle.sx_term.specs.Sorts.{Shape, HasSort}
use Rattle.sx_term.specs.Instances.{instance, Stands}
use Rattle.sx_term.specs.Untyped.{IsUntypedSort, PlainHaveNoTyped}
use Rattle.sx_plain.specs.Plain.{Table, image}
use Rattle.sx_plain.specs.Tables.{LabelsBelow, IsPlainTable, FitsTable, IsCovered}
use Rattle.sx_plain.specs.Tables.{Begins, HasBodies, Desugars}
use Rattle.sx_plain.specs.Adds.{IsBodyAdded}

-- the plain image of an instance is the instance of the plain image, by the plain images of what is
-- put for the variables
abbrev pub ImagesOfInstances : Type 0
ImagesOfInstances = (table : Table) (s : ℕ → Tree) (t : Tree) →
    image table (instance s t) ≡ instance (λ v. image table (s v)) (image table t)

-- the plain image has just the variables of the term
abbrev pub ImagesKeepVariables : Type 0
ImagesKeepVariables = (base : ℕ) (table : Table) (t : Tree) → IsPlainTable base table →
    FitsTable table t → (v : ℕ) → Stands v (image table t) ↔ Stands v t

-- a base term is its own plain image
abbrev pub BaseTermsStay : Type 0
BaseTermsStay = (base : ℕ) (table : Table) (t : Tree) → IsPlainTable base table →
    LabelsBelow base t →
    image table t ≡ t

-- where each label of a term is base or has an entry, its plain image is base
abbrev pub ImagesAreBase : Type 0
ImagesAreBase = (base : ℕ) (table : Table) (t : Tree) → IsPlainTable base table →
    FitsTable table t →
    IsCovered base table t → LabelsBelow base (image table t)

-- tables that agree at the labels of a term give it one plain image
abbrev pub ImagesStay : Type 0
ImagesStay = (n : ℕ) (table other : Table) (t : Tree) →
    ((label : ℕ) → label < n → table label ≡ other label) → LabelsBelow n t →
    image table t ≡ image other t

-- the plain image of a well sorted term has its sort by the base shapes, where each label is base
-- or has an entry
abbrev pub ImagesAreSorted : Type 0
ImagesAreSorted =
    (base shapes : List Shape) (table : Table) (vars : List Sort) (t : Tree) (sort : Sort) →
    Begins base shapes → Desugars base shapes table →
    HasSort shapes vars t sort → IsCovered (length base) table t →
    HasSort base vars (image table t) sort

-- where each entry has a body of its sort, it is so after one more, whose constructor is plain and
-- whose term has its sort
abbrev pub BodiesStaySorted : Type 0
BodiesStaySorted =
    (base shapes : List Shape) (old new : Table) (label : ℕ) (shape : Shape) (t : Tree) →
    Begins base shapes → HasBodies base shapes old → slice_get shapes label ≡ Some shape →
    IsUntypedSort shape.sort → HasSort shapes shape.kids t shape.sort →
    IsBodyAdded (length base) old new label (length shape.kids) t (Ok tt) →
    HasBodies base shapes new

-- in a well sorted term of a plain or lexical sort each label is base or has an entry
abbrev pub PlainTermsAreCovered : Type 0
PlainTermsAreCovered =
    (base shapes : List Shape) (table : Table) (vars : List Sort) (t : Tree) (sort : Sort) →
    PlainHaveNoTyped shapes → Desugars base shapes table →
    HasSort shapes vars t sort → IsUntypedSort sort → IsCovered (length base) table t

-- a well sorted term has as many parts as the table asks for
abbrev pub SortedTermsFitTables : Type 0
SortedTermsFitTables =
    (base shapes : List Shape) (table : Table) (vars : List Sort) (t : Tree) (sort : Sort) →
    HasBodies base shapes table → HasSort shapes vars t sort → FitsTable table t

-- the labels of a well sorted term are those of the shapes, so that a term that is well sorted by
-- the base shapes is base
abbrev pub SortedTermsAreBelow : Type 0
SortedTermsAreBelow = (shapes : List Shape) (vars : List Sort) (t : Tree) (sort : Sort) →
    HasSort shapes vars t sort → LabelsBelow (length shapes) t

-- no constructor has a lexical sort
abbrev pub HaveNoLexical : List Shape → Type 0
HaveNoLexical shapes = (label : ℕ) (shape : Shape) (kind : LexKind) →
    slice_get shapes label ≡ Some shape → shape.sort ≡ Lex kind → ⊥

-- a term of a lexical sort is its own plain image, so that two such terms are apart exactly where
-- their plain images are
abbrev pub LexicalTermsStay : Type 0
LexicalTermsStay =
    (shapes : List Shape) (table : Table) (vars : List Sort) (t : Tree) (kind : LexKind) →
    HaveNoLexical shapes → HasSort shapes vars t (Lex kind) → image table t ≡ t
