-- The shared form of contracts of calls that can refuse.
use Rattle.std.specs.Prelude.{◌≡◌, Result, Ok, Err}

-- What a call returned is the answer: its value, as view shows it, is the answer's value, and its
-- refusal stands to the answer as Refuses says. Where memory may run out, Refuses holds of that
-- error and every answer.
abbrev pub GivesAnswer : {X Y E F : Type 0} → (X → Y) → (E → Result Y F → Type 0) → Result X E →
    Result Y F → Type 0
GivesAnswer view Refuses (Ok x) answer = answer ≡ Ok (view x)
GivesAnswer view Refuses (Err e) answer = Refuses e answer
