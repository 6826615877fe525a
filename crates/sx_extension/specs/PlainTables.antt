-- The plain table of an extension.
use Rattle.std.specs.Prelude.{◌≡◌, ℕ, zero, suc, ◌≤◌, ◌<◌, List, [], ◌∷◌, Some, None, slice_get}
use Rattle.std.specs.Prelude.{Result, Ok, Err, IsSome}
use Rattle.sx_term.specs.Sorts.{Shape}
use Rattle.sx_term.specs.Untyped.{IsUntypedSort}
use Rattle.sx_plain.specs.declared.plain_error.PlainError.{PlainError}
use Rattle.sx_plain.specs.declared.plain_error.PlainError.TheVariants as plain
use Rattle.sx_plain.specs.declared.table.PlainTable.{PlainTable}
use Rattle.sx_plain.specs.Plain.{Table}
use Rattle.sx_plain.specs.Adds.{IsBodyAdded}
use Rattle.sx_plain.specs.Views.{table_of}
use Rattle.sx_extension.specs.declared.table_error.TableError.{TableError}
use Rattle.sx_extension.specs.declared.table_error.TableError.TheVariants.{Memory, Plain, NoPlain}
use Rattle.sx_extension.specs.PlainBodies.{BodyData}

-- the body is added to the table
abbrev pub AddsBody : ℕ → Table → BodyData → Table → Type 0
AddsBody base old b new = IsBodyAdded base old new b.label b.parts b.term (Ok tt)

-- the bodies are added to the table in order
abbrev pub AddsAll : ℕ → Table → List BodyData → Table → Type 0
AddsAll base old [] new = (label : ℕ) → new label ≡ old label
AddsAll base old (b ∷ bs) new = (middle : Table) × AddsBody base old b middle ×
    AddsAll base middle bs new

-- the bodies before the one with this number are added, and that one is refused
abbrev pub IsFirstRefused : ℕ → Table → List BodyData → ℕ → PlainError → Type 0
IsFirstRefused base old [] number e = ⊥
IsFirstRefused base old (b ∷ bs) zero e = IsBodyAdded base old old b.label b.parts b.term (Err e)
IsFirstRefused base old (b ∷ bs) (suc number) e =
    (middle : Table) × AddsBody base old b middle × IsFirstRefused base middle bs number e

-- the label is that of a plain constructor
abbrev pub IsPlainLabel : List Shape → ℕ → Type 0
IsPlainLabel shapes label =
    (shape : Shape) × (slice_get shapes label ≡ Some shape) × IsUntypedSort shape.sort

-- the label is that of a plain constructor without an entry
abbrev pub LacksEntry : List Shape → Table → ℕ → Type 0
LacksEntry shapes table label = IsPlainLabel shapes label × (table label ≡ None)

-- each plain constructor from the number on has an entry
abbrev pub HasAll : List Shape → ℕ → Table → Type 0
HasAll shapes first table =
    (label : ℕ) → first ≤ label → IsPlainLabel shapes label → IsSome (table label)

-- this plain constructor is the first from the number on that has no entry
pub record IsFirstWithoutEntry (shapes : List Shape) (first : ℕ) (table : Table)
    (label : ℕ) : Type 0
  where
    pub new : first ≤ label
    pub lacks : LacksEntry shapes table label
    pub before : (other : ℕ) → first ≤ other → other < label → IsPlainLabel shapes other →
        IsSome (table other)

-- memory aside
abbrev pub IsPlainReason : PlainError → Type 0
IsPlainReason plain.Memory = ⊥
IsPlainReason _ = Unit {0}

-- the refusal of the body with this number
abbrev pub IsTableRefusal : ℕ → PlainError → TableError → Type 0
IsTableRefusal number e Memory = e ≡ plain.Memory
IsTableRefusal number e (Plain n x) = IsPlainReason e × (n ≡ number) × (x ≡ e)
IsTableRefusal number e (NoPlain label) = ⊥

-- memory is lacking, or this is the first body that is refused
abbrev pub IsNotAdded : ℕ → Table → List BodyData → TableError → Type 0
IsNotAdded base old bodies Memory = Unit {0}
IsNotAdded base old bodies (Plain number e) = IsPlainReason e
    × IsFirstRefused base old bodies number e
IsNotAdded base old bodies (NoPlain label) = ⊥

-- the table with the bodies, which has an entry for each plain constructor from the number on; or
-- the first body that is refused, or else the first of these constructors without one
abbrev pub IsTableMade : ℕ → List Shape → ℕ → Table → List BodyData →
    Result PlainTable TableError → Type 0
IsTableMade base shapes first old bodies (Ok table) =
    (table.base ≡ base) × AddsAll base old bodies (table_of table) ×
    HasAll shapes first (table_of table)
IsTableMade base shapes first old bodies (Err (NoPlain label)) =
    (table : Table) × AddsAll base old bodies table × IsFirstWithoutEntry shapes first table label
IsTableMade base shapes first old bodies (Err e) = IsNotAdded base old bodies e
