-- What a step of the code answers, and what it does on the shelf.
use Rattle.std.specs.Prelude.{◌≡◌, ◌⊎◌, ℕ, ◌+◌, ◌≤◌, Result, Ok, Err, Option}
use Rattle.sx_outside.specs.Files.{Files}
use Rattle.sx_outside.specs.Faults.{Rose}
use Rattle.sx_steps.specs.declared.stop.Stop.{Stop}
use Rattle.sx_steps.specs.declared.status.Status.{Status}
use Rattle.sx_steps.specs.declared.status.Status.TheVariants as statuses
use Rattle.sx_steps.specs.Refusal.{status_of}
use Rattle.sx_steps.specs.declared.step_error.StepError.{StepError}
use Rattle.sx_steps.specs.declared.step_error.StepError.TheVariants as errors

-- the result, seen by view, is one of the step's, unless memory lacked
abbrev pub Gives : {X A : Type 0} → (X → A) → (Result A Stop → Type 0) → Result X StepError → Type 0
Gives view step (Ok x) = step (Ok (view x))
Gives view step (Err errors.Memory) = Unit {0}
Gives view step (Err (errors.Stopped stop)) = step (Err stop)

-- the result is about one of the step's, unless memory lacked
abbrev pub GivesFor : {X A : Type 0} → (X → A → Type 0) → (Result A Stop → Type 0) →
    Result X StepError → Type 0
GivesFor {A = A} Is step (Ok x) = (a : A) × Is x a × step (Ok a)
GivesFor Is step (Err errors.Memory) = Unit {0}
GivesFor Is step (Err (errors.Stopped stop)) = step (Err stop)

-- a stop with this status
abbrev pub IsStopped : {X : Type 0} → Status → Result X StepError → Type 0
IsStopped status (Ok x) = ⊥
IsStopped status (Err errors.Memory) = ⊥
IsStopped status (Err (errors.Stopped stop)) = status_of stop ≡ status

-- no read and no write failed
abbrev pub IsNoFault : {X : Type 0} → Result X StepError → Type 0
IsNoFault result = (IsStopped statuses.ReadFault result → ⊥) ×
    (IsStopped statuses.WriteFault result → ⊥)

-- nothing was written, and the count of read faults rose where a read fault stopped it, and nowhere
-- else
pub record OnlyReads {X : Type 0} (old new : Option Files)
    (reads_before reads_after writes_before writes_after : ℕ)
    (result : Result X StepError) : Type 0 where
  pub content : new ≡ old
  pub reads : reads_before ≤ reads_after
  pub writes : writes_after ≡ writes_before
  pub cause : IsStopped statuses.ReadFault result → Rose reads_before reads_after
  pub kept : (IsStopped statuses.ReadFault result → ⊥) → reads_after ≡ reads_before
  pub never : IsStopped statuses.WriteFault result → ⊥

-- the steps rose by the tries of these walks
abbrev pub RisesBy : (ℕ → Type 0) → ℕ → ℕ → Type 0
RisesBy Walks before after = (tries : ℕ) × Walks tries × (after ≡ before + tries)

-- the steps rose by at most the tries of these walks
abbrev pub RisesUpTo : (ℕ → Type 0) → ℕ → ℕ → Type 0
RisesUpTo Walks before after = (tries : ℕ) × Walks tries × (before ≤ after) ×
    (after ≤ before + tries)

-- the steps rose by the tries of these walks, and where memory lacked not at all, or by at most as
-- many
abbrev pub CountsTries : {X : Type 0} → (ℕ → Type 0) → Result X StepError → ℕ → ℕ → Type 0
CountsTries Walks (Ok x) before after = RisesBy Walks before after
CountsTries Walks (Err errors.Memory) before after = (after ≡ before) ⊎ RisesUpTo Walks before after
CountsTries Walks (Err (errors.Stopped stop)) before after = RisesBy Walks before after

-- what the code's step answers, seen by view
abbrev pub seen_by : {X A : Type 0} → (X → A) → Result X StepError → Result A StepError
seen_by view (Ok x) = Ok (view x)
seen_by view (Err e) = Err e

-- the answer, seen by view, is one of the step's, and the steps rose by the tries that it makes
abbrev pub Does : {X A : Type 0} → (X → A) → (Result A StepError → ℕ → Type 0) →
    Result X StepError → ℕ → ℕ → Type 0
Does view step result before after = (tries : ℕ) × step (seen_by view result) tries ×
    (after ≡ before + tries)

-- the steps rose by at most so many
abbrev pub RisesWithin : ℕ → ℕ → ℕ → Type 0
RisesWithin most before after = (before ≤ after) × (after ≤ before + most)
