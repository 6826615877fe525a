-- What reading a derivation list answers.
use Rattle.std.specs.Prelude.{◌≡◌, ℕ, Option, Some, None, Result, Err}
use Rattle.sx_rules.specs.declared.list_error.ListError.{ListError}
use Rattle.sx_rules.specs.declared.list_error.ListError.TheVariants.{Memory, BadList}

-- the line that a refusal names
abbrev pub refusal : ListError → Option ℕ
refusal Memory = None
refusal (BadList n) = Some n

-- an error where memory runs out, or at the line that reading refuses
abbrev pub RefusesList : {Y : Type 0} → ListError → Result Y ℕ → Type 0
RefusesList Memory read = Unit {0}
RefusesList (BadList n) read = read ≡ Err n
