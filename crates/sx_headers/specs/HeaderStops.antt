-- The stops of headers and interfaces that are refused.
use Rattle.std.specs.Prelude.{ℕ, List, Option, Some, None}
use Rattle.sx_interface.specs.declared.error.HeaderError.{HeaderError}
use Rattle.sx_interface.specs.declared.error.HeaderError.TheVariants as header_error
use Rattle.sx_words.specs.declared.position.Position.TheVariants.{Line}
use Rattle.sx_words.specs.declared.file_defect.FileDefect.TheVariants as file_defect
use Rattle.sx_words.specs.declared.refusal.Defect.TheVariants as defect
use Rattle.sx_steps.specs.declared.stop.Stop.{Stop}
use Rattle.sx_steps.specs.Refusal.{about}
use Rattle.sx_steps.specs.Stops.{defect_at, not_utf8}

-- the first line of a header or an interface that is not as defined
abbrev pub bad_header : List ℕ → ℕ → Stop
bad_header file line = defect_at (Line line) file (defect.File file_defect.Header)

-- the interface is of another version
abbrev pub version_stop : List ℕ → ℕ → Stop
version_stop file number = about file (defect.File (file_defect.Version number))

-- the stop of a header's or an interface's refusal; out of memory has none
abbrev pub header_stop : List ℕ → HeaderError → Option Stop
header_stop file header_error.Memory = None
header_stop file (header_error.NotUtf8 before) = Some (not_utf8 file before)
header_stop file (header_error.Header line) = Some (bad_header file line)
header_stop file (header_error.Version number) = Some (version_stop file number)
