-- The step that compares the names of a module's imports with the literals of its language.
use Rattle.std.specs.Prelude.{◌≡◌, ℕ, List, length, Result, Ok, Err}
use Rattle.sx_interface.specs.FreeNames.{AreFree, IsFirstIn}
use Rattle.sx_steps.specs.declared.stop.Stop.{Stop}
use Rattle.sx_headers.specs.HeaderRows.{header_row_line, import_row}
use Rattle.sx_headers.specs.HeaderStops.{bad_header}
use Rattle.sx_headers.specs.ReadModule.{Module}

-- the name with this number, from 0, is the first that is a literal
abbrev pub IsTakenAt : (literals names : List (List ℕ)) → ℕ → Type 0
IsTakenAt literals names number =
    (word : List ℕ) × (first : IsFirstIn literals names word) × (number ≡ length first.front)

-- no import has a literal as its name, or the line of the first that has one
abbrev pub HasFreeImports : List ℕ → (literals : List (List ℕ)) → Module →
    Result (Unit {0}) Stop → Type 0
HasFreeImports file literals m (Ok done) = AreFree literals m.header.imports
HasFreeImports file literals m (Err stop) =
    (number : ℕ) × IsTakenAt literals m.header.imports number
    × (stop ≡ bad_header file (header_row_line m (import_row m.header number)))
