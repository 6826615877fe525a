-- The answers of a call below, as those of a step.
use Rattle.std.specs.Prelude.{◌≡◌, Result, Ok, Err, Option, Some}
use Rattle.sx_steps.specs.declared.stop.Stop.{Stop}

-- the value that the call answers, or the stop of its refusal; that it is out of memory has
-- none
abbrev pub Lower : {A E : Type 0} → (E → Option Stop) → (Result A E → Type 0) → Result A Stop →
    Type 0
Lower {A} {E} stop_of Answers (Ok x) = Answers (Ok x)
Lower {A} {E} stop_of Answers (Err stop) = (e : E) × Answers (Err e) × (stop_of e ≡ Some stop)
