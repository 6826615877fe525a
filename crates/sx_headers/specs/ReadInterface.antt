-- The steps that read the interface of a module.
use Rattle.std.specs.Prelude.{◌≡◌, ◌⊎◌, ℕ, List, None, Some, Result, Ok, Err}
use Rattle.std.specs.Str.{IsUtf8}
use Rattle.std.specs.Str.Lossy.{utf8_valid_len}
use Rattle.sx_lines.specs.FirstBad.{IsFirstBad}
use Rattle.sx_lines.specs.Lines.{Lines, lines_from, line_texts}
use Rattle.sx_interface.specs.Interfaces.{InterfaceParts, other_version}
use Rattle.sx_interface.specs.InterfaceView.{interface_view}
use Rattle.sx_interface.specs.Stated.{StatesInterface}
use Rattle.sx_outside.specs.Files.{Files}
use Rattle.sx_steps.specs.declared.stop.Stop.{Stop}
use Rattle.sx_steps.specs.Held.{Held}
use Rattle.sx_term.specs.Limits.{most_bytes}
use Rattle.sx_steps.specs.Steps.{Then}
use Rattle.sx_steps.specs.Stops.{not_utf8}
use Rattle.sx_headers.specs.declared.interface_file.InterfaceFile.{InterfaceFile}
use Rattle.sx_headers.specs.HeaderStops.{bad_header, version_stop as is_other_version}

-- the bytes of an interface's file, and the interface
pub record HeldInterface : Type 0 where
  pub bytes : List ℕ
  pub parts : InterfaceParts

-- what was read, without where it lies in memory
abbrev pub held_interface : InterfaceFile → HeldInterface
held_interface i = record { bytes = i.bytes.items; parts = interface_view i.interface }

-- the bytes state the interface of a module with this name
pub record HasInterface (name bytes : List ℕ) (i : HeldInterface) : Type 0 where
  pub same : i.bytes ≡ bytes
  pub utf8 : IsUtf8 bytes
  pub states : StatesInterface name (line_texts (lines_from 1 bytes)) i.parts

-- the first line names another version, or else this line is the first that is not as defined
abbrev pub IsBadInterface : List ℕ → List ℕ → Lines → Stop → Type 0
IsBadInterface file name lines stop =
    ((number : ℕ) × (other_version lines ≡ Some number) × (stop ≡ is_other_version file number))
    ⊎ ((other_version lines ≡ None) × ((line : ℕ) ×
    IsFirstBad (λ l. StatesInterface name (line_texts l)) lines line ×
    (stop ≡ bad_header file line)))

-- the interface that the bytes state; or they are not UTF-8, or else what is bad about their lines
abbrev pub StatesParts : List ℕ → List ℕ → List ℕ → Result HeldInterface Stop → Type 0
StatesParts file name bytes (Ok i) = HasInterface name bytes i
StatesParts file name bytes (Err stop) =
    ((IsUtf8 bytes → ⊥) × (stop ≡ not_utf8 file (utf8_valid_len bytes)))
    ⊎ (IsUtf8 bytes × IsBadInterface file name (lines_from 1 bytes) stop)

-- the interface of the module with this name, in the file
abbrev pub ReadsInterface : List ℕ → List ℕ → Files → Result HeldInterface Stop → Type 0
ReadsInterface file name files = Then (Held most_bytes file files) (StatesParts file name)
