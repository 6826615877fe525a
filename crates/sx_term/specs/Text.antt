-- What making a text of bytes answers.
use Rattle.std.specs.Prelude.{◌≡◌, ℕ, List, Result, Ok, Err}
use Rattle.std.specs.Str.{IsUtf8}
use Rattle.std.specs.Str.Lossy.{utf8_valid_len}
use Rattle.sx_term.specs.declared.text_error.TextError.{TextError}
use Rattle.sx_term.specs.declared.text_error.TextError.TheVariants.{NotUtf8, Memory}

-- the text, or how many bytes stand before the first that are not UTF-8
abbrev pub IsTextMade : List ℕ → Result (List ℕ) TextError → Type 0
IsTextMade bytes (Ok text) = (text ≡ bytes) × IsUtf8 bytes
IsTextMade bytes (Err (NotUtf8 place)) = (IsUtf8 bytes → ⊥) × (place ≡ utf8_valid_len bytes)
IsTextMade bytes (Err Memory) = Unit {0}
