-- The calls made on an object in memory.
use Rattle.std.specs.Prelude.{ℕ, List, [], Contains}
use Rattle.sx_outside.specs.Faults.{next}

-- how many calls were made, and the numbers of those that are to fail
pub record Calls : Type 0 where
  pub made : ℕ
  pub failing : List ℕ

-- no call was made, and none is to fail
abbrev pub no_calls : Calls
no_calls = record { made = 0; failing = [] }

-- one more call
abbrev pub called : Calls → Calls
called calls = record { made = next calls.made; failing = calls.failing }

-- the same calls, and these are to fail
abbrev pub failing_at : Calls → List ℕ → Calls
failing_at calls numbers = record { made = calls.made; failing = numbers }

-- the next call is to fail
abbrev pub IsToFail : Calls → Type 0
IsToFail calls = Contains calls.failing (next calls.made)
