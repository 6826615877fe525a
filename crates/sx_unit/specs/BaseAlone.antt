-- Accepted sets without extensions.
use Rattle.std.specs.Prelude.{◌≡◌, ℕ, [], None}
use Rattle.sx_rewrite.specs.Accepted.{Accepted}

-- the set has no extension rule, and no constructor gives way to a body
pub record IsBaseAlone (a : Accepted) : Type 0 where
  pub rules : a.more ≡ []
  pub table : (label : ℕ) → a.table label ≡ None
