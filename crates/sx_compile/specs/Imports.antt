-- The steps that look at the names of a module's imports.
use Rattle.std.specs.Prelude.{◌≡◌, ℕ, ◌<◌, ◌≤◌, List, [], ◌∷◌, length, Contains, Result, Ok, Err}
use Rattle.sx_interface.specs.Headers.{HeaderParts}
use Rattle.sx_steps.specs.declared.stop.Stop.{Stop}
use Rattle.sx_walking.specs.Reached.{TellsCycle, too_many_files}

-- no import is the module itself, or else it is a cycle of two names
abbrev pub ImportsOthers : (file name : List ℕ) → HeaderParts → Result (Unit {0}) Stop → Type 0
ImportsOthers file name header (Ok done) = ¬ (Contains header.imports name)
ImportsOthers file name header (Err stop) =
    Contains header.imports name × TellsCycle file (name ∷ name ∷ []) stop

-- the module and its imports have at most 256 files, or else these are too many
abbrev pub ImportsFew : (file : List ℕ) → HeaderParts → Result (Unit {0}) Stop → Type 0
ImportsFew file header (Ok done) = length header.imports ≤ 255
ImportsFew file header (Err stop) =
    (255 < length header.imports) × (stop ≡ too_many_files file)
