-- The steps that read a module's header: that of its file, or that of its base file.
use Rattle.std.specs.Prelude.{◌≡◌, ◌⊎◌, ℕ, List, Result, Ok, Err}
use Rattle.std.specs.Str.{IsUtf8}
use Rattle.std.specs.Str.Lossy.{utf8_valid_len}
use Rattle.sx_lines.specs.FirstBad.{IsFirstBad}
use Rattle.sx_lines.specs.Lines.{lines_from}
use Rattle.sx_lines.specs.Reading.{kept}
use Rattle.sx_interface.specs.Headers.{HeaderParts}
use Rattle.sx_interface.specs.HeaderView.{header_view}
use Rattle.sx_interface.specs.StatedHeader.{StatesHeader}
use Rattle.sx_outside.specs.Files.{Files}
use Rattle.sx_steps.specs.declared.stop.Stop.{Stop}
use Rattle.sx_steps.specs.Held.{Held}
use Rattle.sx_term.specs.Limits.{most_bytes}
use Rattle.sx_steps.specs.Steps.{Then}
use Rattle.sx_steps.specs.Stops.{not_utf8}
use Rattle.sx_headers.specs.declared.module_file.ModuleFile.{ModuleFile}
use Rattle.sx_headers.specs.HeaderStops.{bad_header}

-- the bytes of a module's file, and its header
pub record Module : Type 0 where
  pub bytes : List ℕ
  pub header : HeaderParts

-- what was read, without where it lies in memory
abbrev pub module_of : ModuleFile → Module
module_of m = record { bytes = m.bytes.items; header = header_view m.bytes.items m.header }

-- the bytes state the header of a module with this name
pub record HasHeader (name bytes : List ℕ) (m : Module) : Type 0 where
  pub same : m.bytes ≡ bytes
  pub utf8 : IsUtf8 bytes
  pub states : StatesHeader name (kept (lines_from 1 bytes)) m.header

-- the header that the bytes state; or they are not UTF-8, or else the first line that is not as
-- defined
abbrev pub StatesModule : List ℕ → List ℕ → List ℕ → Result Module Stop → Type 0
StatesModule file name bytes (Ok m) = HasHeader name bytes m
StatesModule file name bytes (Err stop) =
    ((IsUtf8 bytes → ⊥) × (stop ≡ not_utf8 file (utf8_valid_len bytes)))
    ⊎ (IsUtf8 bytes × ((line : ℕ) × IsFirstBad (StatesHeader name) (kept (lines_from 1 bytes)) line
    × (stop ≡ bad_header file line)))

-- the header in the file
abbrev pub ReadsModule : List ℕ → List ℕ → Files → Result Module Stop → Type 0
ReadsModule file name files = Then (Held most_bytes file files) (StatesModule file name)
