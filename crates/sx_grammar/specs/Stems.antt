-- The names of metavariables: a stem and digits after it.
use Rattle.std.specs.Prelude.{ℕ, if◌then◌else◌, [], ◌∷◌}
use Rattle.std.specs.Char.{is_ascii_digit}
use Rattle.sx_grammar.specs.Grammar.{Text}

-- the first byte stays, unless it is a digit and nothing comes after it
abbrev pub kept_unless_digit : ℕ → Text → Text
kept_unless_digit c [] = if is_ascii_digit c then [] else c ∷ []
kept_unless_digit c (d ∷ ds) = c ∷ d ∷ ds

-- without the ASCII digits at its end: the stem of a name
abbrev pub without_digits : Text → Text
without_digits [] = []
without_digits (c ∷ cs) = kept_unless_digit c (without_digits cs)
