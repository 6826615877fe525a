-- What holds of the results of steps.
use Rattle.std.proofs.Common.{◌≡◌, ℕ, refl, subst}
use Rattle.std.specs.Prelude.{Result, Ok, Err, Option, IfOk}
use Rattle.sx_outside.specs.Files.{Files}
use Rattle.sx_steps.specs.declared.step_error.StepError.{StepError}
use Rattle.sx_steps.specs.declared.step_error.StepError.TheVariants as errors
use Rattle.sx_steps.specs.declared.stop.Stop.{Stop}
use Rattle.sx_steps.specs.Steps.{Then}
use Rattle.sx_steps.specs.Stop.{Gives, OnlyReads}

-- what holds of a value, where another thing does
pub if_ok : {X : Type 0} (P Q : X → Type 0) (r : Result X StepError) → ((x : X) → P x → Q x) →
    IfOk r P → IfOk r Q
if_ok P Q (Ok x) next h = next x h
if_ok P Q (Err e) next h = tt

-- what reads alone after nothing has changed reads alone
pub reads_on_from : {X : Type 0} (old mid new : Option Files)
    (reads between after writes writes_between writes_after : ℕ) (result : Result X StepError) →
    mid ≡ old → between ≡ reads → writes_between ≡ writes →
    OnlyReads mid new between after writes_between writes_after result →
    OnlyReads old new reads after writes writes_after result
reads_on_from old mid new reads between after writes writes_between writes_after result content
    same_reads same_writes h =
    subst (λ (c : Option Files). OnlyReads c new reads after writes writes_after result) content
    (subst (λ (n : ℕ). OnlyReads mid new n after writes writes_after result) same_reads
    (subst (λ (n : ℕ). OnlyReads mid new between after n writes_after result) same_writes h))

-- a stop is one whatever would have been given
pub reads_err : {X Y : Type 0} (old new : Option Files) (reads after writes writes_after : ℕ)
    (e : StepError) → OnlyReads {X = X} old new reads after writes writes_after (Err e) →
    OnlyReads {X = Y} old new reads after writes writes_after (Err e)
reads_err old new reads after writes writes_after errors.Memory h = record {
  content = h.content;
  reads = h.reads;
  writes = h.writes;
  cause = h.cause;
  kept = h.kept;
  never = h.never;
}
reads_err old new reads after writes writes_after (errors.Stopped stop) h = record {
  content = h.content;
  reads = h.reads;
  writes = h.writes;
  cause = h.cause;
  kept = h.kept;
  never = h.never;
}

-- so is one of a step
pub stop_of_step : {X Y A : Type 0} (view : X → A) (seen : Y → A) (step : Result A Stop → Type 0)
    (e : StepError) → Gives view step (Err e) → Gives seen step (Err e)
stop_of_step view seen step errors.Memory h = tt
stop_of_step view seen step (errors.Stopped stop) h = h

-- a step after which this value is given
pub then_value : {B : Type 0} (step : Result (Unit {0}) Stop → Type 0) (value : B)
    (result : Result (Unit {0}) StepError) → Gives (λ (done : Unit {0}). done) step result →
    Gives (λ (done : Unit {0}). value) (Then step (λ done r. r ≡ Ok value)) result
then_value step value (Ok done) h = record { given = Ok done; begins = h; goes = refl }
then_value step value (Err errors.Memory) h = tt
then_value step value (Err (errors.Stopped stop)) h =
    record { given = Err stop; begins = h; goes = refl }
