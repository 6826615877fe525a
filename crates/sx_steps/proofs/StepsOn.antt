-- How a result goes through steps one after another.
use Rattle.std.proofs.Common.{◌≡◌, ℕ, ◌+◌, ◌-◌, ◌≤◌, refl, inl, inr, arith}
use Rattle.std.specs.Prelude.{Result, Ok, Err, Option}
use Rattle.sx_outside.specs.Files.{Files}
use Rattle.sx_steps.specs.declared.stop.Stop.{Stop}
use Rattle.sx_steps.specs.Steps.{Then, StepsGo, Trying, Untried, GoesOn, AndThen}
use Rattle.sx_steps.specs.Stop.{Gives, GivesFor, OnlyReads, IsNoFault, RisesUpTo, CountsTries, Does}
use Rattle.sx_steps.specs.declared.step_error.StepError.{StepError}
use Rattle.sx_steps.specs.declared.step_error.StepError.TheVariants as errors

-- where the first step stops, all of them do
pub stops_first : {X Y A B : Type 0} (view : X → A) (seen : Y → B) (first : Result A Stop → Type 0) (next : A → Result B Stop → Type 0) (e : StepError) → Gives view first (Err e) → Gives seen (Then first next) (Err e)
stops_first view seen first next errors.Memory here = tt
stops_first view seen first next (errors.Stopped stop) here = record { given = Err stop; begins = here; goes = refl }

-- so where its value is about one of the step's
pub stops_for : {X Y A B : Type 0} (Is : X → A → Type 0) (seen : Y → B) (first : Result A Stop → Type 0) (next : A → Result B Stop → Type 0) (e : StepError) → GivesFor Is first (Err e) → Gives seen (Then first next) (Err e)
stops_for Is seen first next errors.Memory here = tt
stops_for Is seen first next (errors.Stopped stop) here = record { given = Err stop; begins = here; goes = refl }

-- where the first step gives something, the next one goes on
pub goes_next : {Y A B : Type 0} (seen : Y → B) (first : Result A Stop → Type 0) (next : A → Result B Stop → Type 0) (given : A) (result : Result Y StepError) → first (Ok given) → Gives seen (next given) result → Gives seen (Then first next) result
goes_next seen first next given (Ok y) begins there = record { given = Ok given; begins = begins; goes = there }
goes_next seen first next given (Err errors.Memory) begins there = tt
goes_next seen first next given (Err (errors.Stopped stop)) begins there = record { given = Ok given; begins = begins; goes = there }

-- a later step that reads nothing leaves it so
pub reads_on : {X Y : Type 0} (old new : Option Files) (reads reads_after writes writes_after : ℕ) (given : X) (later : Result Y StepError) → OnlyReads old new reads reads_after writes writes_after (Ok given) → IsNoFault later → OnlyReads old new reads reads_after writes writes_after later
reads_on old new reads reads_after writes writes_after given later so none = record {
  content = so.content;
  reads = so.reads;
  writes = so.writes;
  cause = λ fault. absurd (none.0 fault);
  kept = λ still. so.kept (λ fault. fault);
  never = none.1;
}

-- where steps end without a stop, the first of them gave something, and the next one went on from it
pub record Went {A B : Type 0} (first : Result A Stop → Type 0) (next : A → Result B Stop → Type 0) (result : B) : Type 0 where
  pub given : A
  pub begins : first (Ok given)
  pub goes : next given (Ok result)

went_by : {A B : Type 0} (first : Result A Stop → Type 0) (next : A → Result B Stop → Type 0) (result : B) (given : Result A Stop) → first given → StepsGo next given (Ok result) → Went first next result
went_by first next result (Ok given) begins goes = record { given = given; begins = begins; goes = goes }
went_by first next result (Err stop) begins goes = absurd cc

pub went : {A B : Type 0} (first : Result A Stop → Type 0) (next : A → Result B Stop → Type 0) (result : B) → Then first next (Ok result) → Went first next result
went first next result steps = went_by first next result steps.given steps.begins steps.goes

-- ---- steps with tries

-- where the first step with tries stops, all of them do
pub stops_as : {Y A B : Type 0} (seen : Y → B) (first : Result A StepError → ℕ → Type 0) (next : A → Result B StepError → ℕ → Type 0) (e : StepError) (before after : ℕ) →
    ((tries : ℕ) × first (Err e) tries × (after ≡ before + tries)) → Does seen (AndThen first next) (Err e) before after
stops_as seen first next e before after here =
    let sum = here.2 in
    (here.0, record { given = Err e; before = here.0; after = 0; begins = here.1; goes = (refl, refl); sum = omega arith }, here.2)

pub stops_at : {X Y A B : Type 0} (view : X → A) (seen : Y → B) (first : Result A StepError → ℕ → Type 0) (next : A → Result B StepError → ℕ → Type 0) (e : StepError) (before after : ℕ) →
    Does view first (Err e) before after → Does seen (AndThen first next) (Err e) before after
stops_at view seen first next e before after here = stops_as seen first next e before after here

-- memory may lack before the first step
pub lacks_first : {Y A B : Type 0} (seen : Y → B) (Walks : ℕ → Type 0) (first : Result A Stop → Type 0) (next : A → Result B StepError → ℕ → Type 0) (steps : ℕ) → Does seen (AndThen (Trying Walks first) next) (Err errors.Memory) steps steps
lacks_first seen Walks first next steps = stops_as seen (Trying Walks first) next errors.Memory steps steps (0, inl refl, omega arith)

-- where the first step with tries gives something, the next one goes on
pub goes_from : {Y A B : Type 0} (seen : Y → B) (first : Result A StepError → ℕ → Type 0) (next : A → Result B StepError → ℕ → Type 0) (given : A) (result : Result Y StepError) (before between after : ℕ) →
    ((tries : ℕ) × first (Ok given) tries × (between ≡ before + tries)) → Does seen (next given) result between after → Does seen (AndThen first next) result before after
goes_from seen first next given result before between after begins there =
    let one = begins.2 in
    let two = there.2 in
    (begins.0 + there.0, record { given = Ok given; before = begins.0; after = there.0; begins = begins.1; goes = there.1; sum = refl }, omega arith)

-- a step without tries, as one with tries
pub untried : {X A : Type 0} (view : X → A) (step : Result A Stop → Type 0) (result : Result X StepError) (steps : ℕ) → Gives view step result → Does view (Untried step) result steps steps
untried view step (Ok x) steps gives = (0, (gives, refl), omega arith)
untried view step (Err errors.Memory) steps gives = (0, inl refl, omega arith)
untried view step (Err (errors.Stopped stop)) steps gives = (0, (gives, refl), omega arith)

-- how many tries were made at most, as a number of tries
made_of : (Walks : ℕ → Type 0) (before after : ℕ) → RisesUpTo Walks before after → (tries : ℕ) × ((all : ℕ) × Walks all × (tries ≤ all)) × (after ≡ before + tries)
made_of Walks before after rises =
    let low = rises.2 in
    let high = rises.3 in
    (after - before, (rises.0, rises.1, omega arith), omega arith)

-- a step with the tries of its walk, whose value is about one of the step's
pub trying_for : {X A : Type 0} (Is : X → A → Type 0) (Walks : ℕ → Type 0) (step : Result A Stop → Type 0) (e : StepError) (before after : ℕ) → GivesFor Is step (Err e) → CountsTries {X = X} Walks (Err e) before after →
    (tries : ℕ) × Trying Walks step (Err e) tries × (after ≡ before + tries)
trying_for Is Walks step errors.Memory before after gives (inl none) = (0, inl refl, omega arith)
trying_for Is Walks step errors.Memory before after gives (inr rises) = let made = made_of Walks before after rises in (made.0, inr made.1, made.2)
trying_for Is Walks step (errors.Stopped stop) before after gives rises = (rises.0, (gives, rises.1), rises.2)

-- so of a step whose value is seen by view
pub trying_by_view : {X A : Type 0} (view : X → A) (Walks : ℕ → Type 0) (step : Result A Stop → Type 0) (result : Result X StepError) (before after : ℕ) → Gives view step result → CountsTries Walks result before after → Does view (Trying Walks step) result before after
trying_by_view view Walks step (Ok x) before after gives rises = (rises.0, (gives, rises.1), rises.2)
trying_by_view view Walks step (Err errors.Memory) before after gives (inl none) = (0, inl refl, omega arith)
trying_by_view view Walks step (Err errors.Memory) before after gives (inr rises) = let made = made_of Walks before after rises in (made.0, inr made.1, made.2)
trying_by_view view Walks step (Err (errors.Stopped stop)) before after gives rises = (rises.0, (gives, rises.1), rises.2)

-- where steps with tries end without a stop, the first of them gave something, and the next one went on from it
pub record WentOn {A B : Type 0} (first : Result A StepError → ℕ → Type 0) (next : A → Result B StepError → ℕ → Type 0) (result : B) : Type 0 where
  pub given : A
  pub before : ℕ
  pub after : ℕ
  pub begins : first (Ok given) before
  pub goes : next given (Ok result) after

went_on_by : {A B : Type 0} (first : Result A StepError → ℕ → Type 0) (next : A → Result B StepError → ℕ → Type 0) (result : B) (given : Result A StepError) (before after : ℕ) → first given before → GoesOn next given (Ok result) after → WentOn first next result
went_on_by first next result (Ok given) before after begins goes = record { given = given; before = before; after = after; begins = begins; goes = goes }
went_on_by first next result (Err e) before after begins goes = let none = goes.0 in absurd cc

pub went_on : {A B : Type 0} (first : Result A StepError → ℕ → Type 0) (next : A → Result B StepError → ℕ → Type 0) (result : B) (tries : ℕ) → AndThen first next (Ok result) tries → WentOn first next result
went_on first next result tries steps = went_on_by first next result steps.given steps.before steps.after steps.begins steps.goes
