-- The steps that read what was written for a core file.
use Rattle.std.specs.Prelude.{◌≡◌, ◌≢◌, ℕ, List, Result, Ok, Err}
use Rattle.sx_outside.specs.Files.{Files}
use Rattle.sx_steps.specs.declared.stop.Stop.{Stop}
use Rattle.sx_top.specs.CoreStops.{differs}
use Rattle.sx_steps.specs.Held.{Held}
use Rattle.sx_term.specs.Limits.{most_bytes}
use Rattle.sx_steps.specs.Steps.{Then}

-- the bytes are the text, or the file differs
abbrev pub Equals : List ℕ → List ℕ → List ℕ → Result (Unit {0}) Stop → Type 0
Equals file text bytes (Ok done) = bytes ≡ text
Equals file text bytes (Err stop) = (bytes ≢ text) × (stop ≡ differs file)

-- the file is read and compared
abbrev pub Compares : List ℕ → List ℕ → Files → Result (Unit {0}) Stop → Type 0
Compares file text files = Then (Held most_bytes file files) (Equals file text)
