-- What adding an entry to a plain table answers.
use Rattle.std.specs.Prelude.{◌≡◌, ℕ, ◌-◌, ◌^◌, ◌<◌, ◌≤◌, Option, Some, None, IsSome, min, Result}
use Rattle.std.specs.Prelude.{Ok, Err, if◌then◌else◌, ◌==◌, nat_lt}
use Rattle.sx_term.specs.Tree.{Tree, Trees, node, lexeme, hole, none, ◌▹◌, depth_of, size_of}
use Rattle.sx_term.specs.Instances.{Stands}
use Rattle.sx_plain.specs.declared.plain_error.PlainError.{PlainError}
use Rattle.sx_plain.specs.declared.plain_error.PlainError.TheVariants.{Memory, Twice, UsesLater}
use Rattle.sx_plain.specs.declared.plain_error.PlainError.TheVariants.{Drops, TooDeep, TooBig}
use Rattle.sx_plain.specs.Plain.{Body, Table, image}
use Rattle.sx_term.specs.Limits.{most_depth, most_size}

-- the table with one more entry
abbrev pub with_entry : Table → ℕ → Body → Table
with_entry table label body other = if other == label then Some body else table other

-- the label, where it is not base and has no entry
abbrev pub uncovered : ℕ → Option Body → ℕ → Option ℕ
uncovered base None label = if nat_lt label base then None else Some label
uncovered base (Some body) label = None

-- the first that is there
abbrev pub label_or : Option ℕ → Option ℕ → Option ℕ
label_or None next = next
label_or (Some n) next = Some n

abbrev mutual
  -- the first label in preorder that is not base and has no entry
  pub first_uncovered : ℕ → Table → Tree → Option ℕ
  first_uncovered base table (node label kids) =
      label_or (uncovered base (table label) label) (first_uncovered_of base table kids)
  first_uncovered base table (lexeme kind text) = None
  first_uncovered base table (hole v) = None

  -- the same among terms
  pub first_uncovered_of : ℕ → Table → Trees → Option ℕ
  first_uncovered_of base table none = None
  first_uncovered_of base table (t ▹ ts) = label_or (first_uncovered base table t)
      (first_uncovered_of base table ts)

-- the first variable below the arity that the term has not
pub record IsFirstDropped (arity : ℕ) (t : Tree) (v : ℕ) : Type 0 where
  pub within : v < arity
  pub dropped : Stands v t → ⊥
  pub before : (w : ℕ) → w < v → Stands w t

-- each variable below the arity stands in the term
abbrev pub UsesAll : ℕ → Tree → Type 0
UsesAll arity t = (v : ℕ) → v < arity → Stands v t

-- the entry with the body's image was added, or this is the first reason why not
abbrev pub IsBodyAdded : ℕ → Table → Table → ℕ → ℕ → Tree → Result (Unit {0}) PlainError → Type 0
IsBodyAdded base old new label arity body (Ok x) =
    (old label ≡ None) × (first_uncovered base old body ≡ None) × UsesAll arity body ×
    (depth_of (image old body) ≤ most_depth) × (size_of (image old body) ≤ most_size)
    × ((other : ℕ) → new other ≡ with_entry old label
    (record { arity = arity; flat = image old body }) other)
IsBodyAdded base old new label arity body (Err Memory) = Unit {0}
IsBodyAdded base old new label arity body (Err (Twice l)) = (l ≡ label) × IsSome (old label)
IsBodyAdded base old new label arity body (Err (UsesLater l)) =
    (old label ≡ None) × (first_uncovered base old body ≡ Some l)
IsBodyAdded base old new label arity body (Err (Drops v)) =
    (old label ≡ None) × (first_uncovered base old body ≡ None) × IsFirstDropped arity body v
IsBodyAdded base old new label arity body (Err (TooDeep depth)) =
    (old label ≡ None) × (first_uncovered base old body ≡ None) × UsesAll arity body ×
    (most_depth < depth_of (image old body)) × (depth ≡ depth_of (image old body))
IsBodyAdded base old new label arity body (Err (TooBig nodes)) =
    (old label ≡ None) × (first_uncovered base old body ≡ None) × UsesAll arity body ×
    (depth_of (image old body) ≤ most_depth) × (most_size < size_of (image old body))
    × (nodes ≡ min (size_of (image old body)) (2 ^ 64 - 1))
