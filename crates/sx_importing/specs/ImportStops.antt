-- The stops of imports of which no environment is made.
use Rattle.std.specs.Prelude.{ℕ, List, [], map, Option, Some, None, slice_index_or}
use Rattle.hex.specs.Hex.{encode_lower}
use Rattle.sx_interface.specs.Interfaces.{InterfaceParts}
use Rattle.sx_words.specs.declared.closure_defect.ClosureDefect.TheVariants as closure_defect
use Rattle.sx_words.specs.declared.closure_defect.Kept.TheVariants.{LanguageDigest, Stated}
use Rattle.sx_words.specs.declared.refusal.Defect.TheVariants as defect
use Rattle.sx_steps.specs.declared.stop.Stop.{Stop}
use Rattle.sx_steps.specs.Refusal.{about}
use Rattle.sx_steps.specs.Stops.{too_deep}
use Rattle.sx_steps.specs.Unit.{interface_file}
use Rattle.sx_environment.specs.declared.import_error.ImportError.{ImportError}
use Rattle.sx_environment.specs.declared.import_error.ImportError.TheVariants as import_error
use Rattle.sx_headers.specs.TextStops.{uncut_text, unread_text}
use Rattle.sx_importing.specs.KeptValues.{kept_differs}

-- the file of the import with this number
abbrev pub import_file : List InterfaceParts → ℕ → List ℕ
import_file its import = interface_file (slice_index_or (map (λ it. it.name) its) import [])

-- The stop of a refusal of these imports: it is told of the import's interface, and where the
-- environment is too deep of this file. Out of memory has none.
abbrev pub import_stop : List ℕ → List InterfaceParts → ImportError → Option Stop
import_stop file its import_error.Memory = None
import_stop file its (import_error.LanguageDiffers import language) =
    Some (about (import_file its import) (defect.Closure (closure_defect.LanguageDiffers language)))
import_stop file its (import_error.Differs import kept found) =
    Some (kept_differs (import_file its import) LanguageDigest (encode_lower kept.bytes)
    (encode_lower found.bytes))
import_stop file its (import_error.Token import line column e) =
    uncut_text (import_file its import) line column e
import_stop file its (import_error.Read import line column u) =
    Some (unread_text (import_file its import) line column u)
import_stop file its (import_error.StatedDiffers import kept found) =
    Some (kept_differs (import_file its import) Stated kept found)
import_stop file its (import_error.TooDeep depth) = Some (too_deep file depth)
