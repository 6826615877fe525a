-- The step that reads a file from the shelf, with the most bytes that it may have.
use Rattle.std.specs.Prelude.{◌≡◌, ◌⊎◌, ℕ, ◌<◌, ◌≤◌, List, length, Result, Ok, Err, Some, None}
use Rattle.sx_outside.specs.Files.{Files}
use Rattle.sx_steps.specs.declared.stop.Stop.{Stop}
use Rattle.sx_steps.specs.Refusal.{absent, read_fault}
use Rattle.sx_steps.specs.Stops.{too_long}

-- more bytes than the limit are held under the name
abbrev pub IsLong : ℕ → Files → List ℕ → Type 0
IsLong limit files name = (bytes : List ℕ) × (files name ≡ Some bytes) × (limit < length bytes)

-- The bytes that are held under the name; there are none, or there are more than the limit, or
-- reading them failed.
abbrev pub Held : ℕ → List ℕ → Files → Result (List ℕ) Stop → Type 0
Held limit name files (Ok bytes) = (files name ≡ Some bytes) × (length bytes ≤ limit)
Held limit name files (Err stop) =
    ((stop ≡ absent name) × (files name ≡ None)) ⊎
    ((stop ≡ too_long name) × IsLong limit files name) ⊎ (stop ≡ read_fault name)

-- the most bytes of a derivation list
abbrev pub most_list_bytes : ℕ
most_list_bytes = 67108864
