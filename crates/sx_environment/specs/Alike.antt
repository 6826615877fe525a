-- Environments and refusals that are the same, though two readings that a refusal shows may not be,
-- where a text has more than two; and the lines of rows.
use Rattle.std.specs.Prelude.{◌≡◌, ◌≢◌, ◌⊎◌, ℕ, ◌-◌, ◌≤◌, List, [], Some, slice_get}
use Rattle.sx_term.specs.Tree.{Tree, depth_of}
use Rattle.sx_grammar.specs.Grammar.{Text}
use Rattle.sx_notation.specs.declared.unread.Unread.TheVariants.{Ambiguous}
use Rattle.sx_interface.specs.Interfaces.{InterfaceParts, first_lines, interface_lines}
use Rattle.sx_typing.specs.Alike.{HasThree}
use Rattle.sx_environment.specs.declared.import_error.ImportError.{ImportError}
use Rattle.sx_environment.specs.declared.import_error.ImportError.TheVariants.{Memory, Read}
use Rattle.sx_environment.specs.declared.row.Row.{Row}
use Rattle.sx_environment.specs.declared.row.Row.TheVariants.{Signature}
use Rattle.sx_environment.specs.Environments.{IsEnvironment}
use Rattle.sx_environment.specs.ImportErrors.{HasNoEnvironment}
use Rattle.sx_environment.specs.Seen.{import_row_text, row_line, row_parts, row_sort}
use Rattle.sx_environment.specs.SeenFrom.{SeenFrom}
use Rattle.sx_term.specs.Limits.{most_depth}

-- a row of the import has more than two readings
abbrev pub HasRowOfThree : SeenFrom → InterfaceParts → Type 0
HasRowOfThree s it =
    (row : Row) × HasThree (row_parts s row) (row_sort s) (import_row_text it row)

-- both say that the same row of an import has more than one reading, and show two of them; it has
-- more than two
pub record RowReadsOthers (s : SeenFrom) (its : List InterfaceParts)
    (e d : ImportError) : Type 0 where
  pub import : ℕ
  pub line : ℕ
  pub column : ℕ
  pub one : Text
  pub other : Text
  pub some : Text
  pub more : Text
  pub first : e ≡ Read import line column (Ambiguous one other)
  pub second : d ≡ Read import line column (Ambiguous some more)
  pub it : InterfaceParts
  pub is : slice_get its import ≡ Some it
  pub three : HasRowOfThree s it

-- the same refusal, but for the two readings that it shows of a text with more than two
abbrev pub AreImportsAlike : SeenFrom → List InterfaceParts → ImportError → ImportError → Type 0
AreImportsAlike s its e d = (e ≡ d) ⊎ RowReadsOthers s its e d

-- Imports have one environment or one refusal. Two readings that a refusal shows are the same two
-- in the same order, that of their tree texts by bytes, unless the text has more than two. Out of
-- memory is free.
pub record OneEnvironment : Type 0 where
  pub found : (s : SeenFrom) (its : List InterfaceParts) (t u : Tree) → IsEnvironment s its t →
      IsEnvironment s its u → t ≡ u
  pub either : (s : SeenFrom) (its : List InterfaceParts) (t : Tree) (e : ImportError) →
      IsEnvironment s its t → depth_of t ≤ most_depth → HasNoEnvironment s its e → e ≡ Memory
  pub refused : (s : SeenFrom) (its : List InterfaceParts) (e d : ImportError) →
      HasNoEnvironment s its e → HasNoEnvironment s its d → e ≢ Memory → d ≢ Memory →
      AreImportsAlike s its e d

-- the rows stand on their lines in the text of an interface, in both versions
pub record RowsHaveLines : Type 0 where
  pub first : (it : InterfaceParts) → it.uses ≡ [] →
      slice_get (first_lines it) (row_line it Signature - 1) ≡ Some it.signature
  pub second : (it : InterfaceParts) (row : Row) →
      slice_get (interface_lines it) (row_line it row - 1) ≡ Some (import_row_text it row)
