-- What telling why nothing was written leads to.
use Rattle.std.specs.Prelude.{◌≡◌, ℕ, List, Option}
use Rattle.sx_outside.specs.declared.answer.WriteAnswer.{WriteAnswer}
use Rattle.sx_steps.specs.Refusal.{status_of, line_of}
use Rattle.sx_steps.specs.declared.status.Status.{Status}
use Rattle.sx_steps.specs.declared.status.Status.TheVariants as statuses
use Rattle.sx_steps.specs.declared.step_error.StepError.{StepError}
use Rattle.sx_steps.specs.declared.step_error.StepError.TheVariants as errors
use Rattle.sx_top.specs.Course.{answered, Sent}

-- nothing is sent where memory lacked, and else the stop's line; the status is by the answer to it
abbrev pub IsStopTold : StepError → Status → Option (List ℕ) → Option (List ℕ) → ℕ → ℕ → Type 0
IsStopTold errors.Memory status old new before after = (status ≡ statuses.NoMemory) × (new ≡ old) ×
    (after ≡ before)
IsStopTold (errors.Stopped stop) status old new before after =
    (answer : WriteAnswer) × (answered (status_of stop) answer ≡ status) ×
    Sent (line_of stop) answer old new before after
