-- The limits of rule sets and derivations: each is the greatest number.
use Rattle.std.specs.Prelude.{ℕ}

-- rules of a rule set
abbrev pub most_rules : ℕ
most_rules = 4096

-- levels of a derivation
abbrev pub most_levels : ℕ
most_levels = 3000
