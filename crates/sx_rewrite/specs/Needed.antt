-- Which kids of a node are lowered.
use Rattle.std.specs.Prelude.{ℕ, Bool, true, Option, Some, None}
use Rattle.sx_rules.specs.Derivations.{Proof}
use Rattle.sx_rewrite.specs.Measured.{is_used}

-- whether a kid is needed: all are where the rule is base,
-- and else those whose givens the certificate uses
abbrev pub needed : Option Proof → ℕ → Bool
needed None i = true
needed (Some certificate) i = is_used i certificate
