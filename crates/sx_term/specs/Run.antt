-- Runs of characters.
use Rattle.std.specs.Prelude.{ℕ, Bool}
use Rattle.std.specs.Char.{is_ascii_digit}
use Rattle.unicode_ident.specs.Ident.{is_xid_continue}
use Rattle.sx_term.specs.Cutting.{is_symbol, is_in_line, is_in_string}
use Rattle.sx_term.specs.declared.runs.Run.{Run}
use Rattle.sx_term.specs.declared.runs.Run.TheVariants.{Word, Digits, Inside, Line, Symbols}

-- whether a character goes on with a run
abbrev pub passes : Run → ℕ → Bool
passes Word = is_xid_continue
passes Digits = is_ascii_digit
passes Inside = is_in_string
passes Line = is_in_line
passes Symbols = is_symbol
