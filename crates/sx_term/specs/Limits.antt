-- The limits of terms, of what is read and of what is searched: each is the greatest number.
use Rattle.std.specs.Prelude.{ℕ}

-- levels of a term
abbrev pub most_depth : ℕ
most_depth = 1000

-- nodes, lexemes and variables of a term
abbrev pub most_size : ℕ
most_size = 1000000

-- variables of a rule
abbrev pub most_variables : ℕ
most_variables = 64

-- tokens of a text
abbrev pub most_tokens : ℕ
most_tokens = 10000

-- bytes of a file that is no derivation list, and of a text that is printed
abbrev pub most_bytes : ℕ
most_bytes = 262144

-- tries of a search, and nodes of a derivation that is rewritten, that a command may ask for
abbrev pub most_budget : ℕ
most_budget = 1000000
