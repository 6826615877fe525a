-- Steps one after another that are made in another way, where each of them can be.
use Rattle.std.proofs.Common.{◌≡◌, ℕ, List, [], ◌∷◌, refl, sym, ap, ◌∙◌, inl, inr}
use Rattle.std.proofs.Common.{arith}
use Rattle.std.specs.Prelude.{Result, Ok, Err, Contains}
use Rattle.std.proofs.lemmas.List.Elements.{Contains-append_right}
use Rattle.sx_outside.specs.Files.{Files}
use Rattle.sx_steps.specs.declared.stop.Stop.{Stop}
use Rattle.sx_steps.specs.declared.step_error.StepError.{StepError}
use Rattle.sx_steps.specs.declared.step_error.StepError.TheVariants as errors
use Rattle.sx_steps.specs.Agree.{IsSure, AnswersBy}
use Rattle.sx_steps.specs.Held.{Held}
use Rattle.sx_steps.specs.Steps.{Then, StepsGo, Untried, GoesOn, AndThen}
use Rattle.sx_importing.specs.Each.{GivesNext, GivesAfter}

-- ---- steps without tries

-- the step gives whatever the other one gives
abbrev pub IsAlso : {A : Type 0} → (Result A Stop → Type 0) → (Result A Stop → Type 0) → Type 0
IsAlso {A} first other = (r : Result A Stop) → first r → other r

module _ {A B : Type 0} (first other : Result A Stop → Type 0)
    (next later : A → Result B Stop → Type 0) (each : IsAlso first other)
    (more : (x : A) → IsAlso (next x) (later x)) where
  goes_as : (g : Result A Stop) (r : Result B Stop) → StepsGo next g r → StepsGo later g r
  goes_as (Ok x) r h = more x r h
  goes_as (Err stop) r h = h

  pub then_as : IsAlso (Then first next) (Then other later)
  then_as r h = record {
    given = h.given;
    begins = each h.given h.begins;
    goes = goes_as h.given r h.goes;
  }

-- a step for each of a list
module _ {A B : Type 0} (step other : A → Result B Stop → Type 0) where
  next_as : (given : List B) (x : A) → IsAlso (step x) (other x) →
      IsAlso (GivesNext step given x) (GivesNext other given x)
  next_as given x each r h = record {
    given = h.given;
    begins = each h.given h.begins;
    goes = h.goes;
  }

  pub after_as : (given : List B) (xs : List A) →
      ((x : A) → Contains xs x → IsAlso (step x) (other x)) →
      IsAlso (GivesAfter step given xs) (GivesAfter other given xs)
  after_as given [] each r h = h
  after_as given (x ∷ xs) each r h =
      then_as (GivesNext step given x) (GivesNext other given x)
      (λ next. GivesAfter step next xs) (λ next. GivesAfter other next xs)
      (next_as given x (each x (0, omega arith, refl)))
      (λ next. after_as next xs
      (λ y among. each y (Contains-append_right (x ∷ []) xs y among))) r h

-- ---- steps with tries

-- so it is of a step with tries
abbrev pub IsAlsoTrying : {A : Type 0} → (Result A StepError → ℕ → Type 0) →
    (Result A StepError → ℕ → Type 0) → Type 0
IsAlsoTrying {A} first other = (r : Result A StepError) (tries : ℕ) → first r tries → other r tries

pub untried_as : {A : Type 0} (step other : Result A Stop → Type 0) → IsAlso step other →
    IsAlsoTrying (Untried step) (Untried other)
untried_as step other each (Ok x) tries h = (each (Ok x) h.0, h.1)
untried_as step other each (Err errors.Memory) tries h = h
untried_as step other each (Err (errors.Stopped stop)) tries h = (each (Err stop) h.0, h.1)

module _ {A B : Type 0} (first other : Result A StepError → ℕ → Type 0)
    (next later : A → Result B StepError → ℕ → Type 0) (each : IsAlsoTrying first other)
    (more : (x : A) → IsAlsoTrying (next x) (later x)) where
  goes_on_as : (g : Result A StepError) (r : Result B StepError) (tries : ℕ) →
      GoesOn next g r tries → GoesOn later g r tries
  goes_on_as (Ok x) r tries h = more x r tries h
  goes_on_as (Err e) r tries h = h

  pub and_then_as : IsAlsoTrying (AndThen first next) (AndThen other later)
  and_then_as r tries h = record {
    given = h.given;
    before = h.before;
    after = h.after;
    begins = each h.given h.before h.begins;
    goes = goes_on_as h.given r h.after h.goes;
    sum = h.sum;
  }

-- ---- steps that end

-- a step that makes no try, and then the steps after it
pub after_step : {A B : Type 0} (step : Result A Stop → Type 0)
    (next : A → Result B StepError → ℕ → Type 0) (x : A) (r : Result B StepError) (tries : ℕ) →
    step (Ok x) → next x r tries → AndThen (Untried step) next r tries
after_step step next x r tries begins goes = record {
  given = Ok x;
  before = 0;
  after = tries;
  begins = (begins, refl);
  goes = goes;
  sum = omega arith;
}

-- a step with tries, and then one that makes none
pub before_step : {A B : Type 0} (first : Result A StepError → ℕ → Type 0)
    (step : A → Result B Stop → Type 0) (x : A) (y : B) (tries : ℕ) → first (Ok x) tries →
    step x (Ok y) → AndThen first (λ z. Untried (step z)) (Ok y) tries
before_step first step x y tries begins goes = record {
  given = Ok x;
  before = tries;
  after = 0;
  begins = begins;
  goes = (goes, refl);
  sum = omega arith;
}

-- where the steps can end with a value, a sure result is that value
pub sure_value : {A : Type 0} (Related : Stop → Stop → Type 0) (r : Result A StepError) (x : A) →
    IsSure r → AnswersBy Related r (Ok x) → r ≡ Ok x
sure_value Related (Ok y) x sure same = ap (λ (z : _). Ok z) same
sure_value Related (Err errors.Memory) x sure same = absurd sure
sure_value Related (Err (errors.Stopped stop)) x sure same = absurd same

-- ---- files

-- a file that stands there as well is held there as well
pub held_as : (limit : ℕ) (name : List ℕ) (files others : Files) → files name ≡ others name →
    IsAlso (Held limit name files) (Held limit name others)
held_as limit name files others same (Ok bytes) h = (sym same ∙ h.0, h.1)
held_as limit name files others same (Err stop) (inl h) = inl (h.0, sym same ∙ h.1)
held_as limit name files others same (Err stop) (inr (inl h)) =
    inr (inl (h.0, (h.1.0, sym same ∙ h.1.1, h.1.2)))
held_as limit name files others same (Err stop) (inr (inr h)) = inr (inr h)
