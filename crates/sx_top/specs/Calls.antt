-- What a run is given.
use Rattle.std.specs.Prelude.{ℕ, List}
use Rattle.sx_audit.specs.Meaning.{Meaning}

-- the words, and the auditors that are handed in
pub record Call : Type 0 where
  pub words : List (List ℕ)
  pub auditors : List Meaning

-- these two
abbrev pub call : List (List ℕ) → List Meaning → Call
call words auditors = record { words = words; auditors = auditors }
