-- Steps one after another. A step leads to a stop, or to what the next step starts from, and it may
-- make tries.
use Rattle.std.specs.Prelude.{◌≡◌, ◌⊎◌, ℕ, ◌+◌, ◌≤◌, Result, Ok, Err}
use Rattle.sx_steps.specs.declared.stop.Stop.{Stop}
use Rattle.sx_steps.specs.declared.step_error.StepError.{StepError}
use Rattle.sx_steps.specs.declared.step_error.StepError.TheVariants as errors

-- ---- steps without tries

-- the next step from what was given; a stop stays
abbrev pub StepsGo : {A B : Type 0} → (A → Result B Stop → Type 0) → Result A Stop → Result B Stop →
    Type 0
StepsGo next (Ok given) result = next given result
StepsGo next (Err stop) result = result ≡ Err stop

-- the first step, and then the next one from what it gives
pub record Then {A B : Type 0} (first : Result A Stop → Type 0) (next : A → Result B Stop → Type 0)
    (result : Result B Stop) : Type 0 where
  pub given : Result A Stop
  pub begins : first given
  pub goes : StepsGo next given result

-- ---- steps with tries, in which memory may lack

-- the step whose walk makes so many tries, where Walks holds; where memory lacks, none were made,
-- or some of them
abbrev pub Trying : {A : Type 0} → (ℕ → Type 0) → (Result A Stop → Type 0) → Result A StepError →
    ℕ → Type 0
Trying Walks step (Ok x) tries = step (Ok x) × Walks tries
Trying Walks step (Err errors.Memory) tries = (tries ≡ 0) ⊎ ((all : ℕ) × Walks all × (tries ≤ all))
Trying Walks step (Err (errors.Stopped stop)) tries = step (Err stop) × Walks tries

-- no try is made
abbrev pub NoTries : ℕ → Type 0
NoTries tries = tries ≡ 0

-- the step that makes no try
abbrev pub Untried : {A : Type 0} → (Result A Stop → Type 0) → Result A StepError → ℕ → Type 0
Untried step result tries = Trying NoTries step result tries

-- the next step from what was given; a stop stays, and makes no try more
abbrev pub GoesOn : {A B : Type 0} → (A → Result B StepError → ℕ → Type 0) → Result A StepError →
    Result B StepError → ℕ → Type 0
GoesOn next (Ok given) result tries = next given result tries
GoesOn next (Err e) result tries = (result ≡ Err e) × (tries ≡ 0)

-- the first step, and then the next one from what it gives; the tries are those of both
pub record AndThen {A B : Type 0} (first : Result A StepError → ℕ → Type 0)
    (next : A → Result B StepError → ℕ → Type 0) (result : Result B StepError)
    (tries : ℕ) : Type 0 where
  pub given : Result A StepError
  pub before : ℕ
  pub after : ℕ
  pub begins : first given before
  pub goes : GoesOn next given result after
  pub sum : tries ≡ before + after
