-- The step that compares the header of a base file with the interface beside it.
use Rattle.std.specs.Prelude.{◌≡◌, ◌≢◌, ◌⊎◌, ℕ, zero, suc, ◌-◌, ◌<◌, ◌≤◌, List, [], length, map}
use Rattle.std.specs.Prelude.{slice_get, Result, Ok, Err}
use Rattle.sx_interface.specs.Headers.{HeaderParts}
use Rattle.sx_interface.specs.Interfaces.{InterfaceParts, MarkData}
use Rattle.sx_steps.specs.declared.stop.Stop.{Stop}
use Rattle.sx_headers.specs.HeaderRows.{header_row_line}
use Rattle.sx_headers.specs.HeaderStops.{bad_header}
use Rattle.sx_headers.specs.ReadModule.{Module}

-- the names of the imports of an interface
abbrev pub mark_names : List MarkData → List (List ℕ)
mark_names marks = map (λ m. m.name) marks

-- the header names the language and the imports of the interface, and has no `use` lines
pub record IsBaseOf (it : InterfaceParts) (header : HeaderParts) : Type 0 where
  pub language : header.language ≡ it.language.name
  pub uses : header.uses ≡ []
  pub imports : header.imports ≡ mark_names it.imports

-- the name at this place, from 0, is not the one due there, or one of them is missing
abbrev pub IsOtherName : (names due : List (List ℕ)) → ℕ → Type 0
IsOtherName names due place = slice_get names place ≢ slice_get due place

-- The row with this number, from 0, does not fit the interface: it names another language, or is a
-- `use` line, or is not the import that the interface has at its place. The row of `---` does not
-- fit where an import of the interface is missing.
abbrev pub IsMisfit : InterfaceParts → HeaderParts → ℕ → Type 0
IsMisfit it header zero = ⊥
IsMisfit it header (suc zero) = header.language ≢ it.language.name
IsMisfit it header (suc (suc row)) = (row < length header.uses) ⊎ ((length header.uses ≤ row) ×
    IsOtherName header.imports (mark_names it.imports) (row - length header.uses))

-- it is so of this number, and of none before it
pub record IsFirstNumber (Is : ℕ → Type 0) (number : ℕ) : Type 0 where
  pub here : Is number
  pub before : (other : ℕ) → other < number → Is other → ⊥

-- the header fits, or the line of its first row that does not
abbrev pub FitsBeside : List ℕ → InterfaceParts → Module → Result (Unit {0}) Stop → Type 0
FitsBeside file it m (Ok done) = IsBaseOf it m.header
FitsBeside file it m (Err stop) =
    (row : ℕ) × IsFirstNumber (IsMisfit it m.header) row
    × (stop ≡ bad_header file (header_row_line m row))
