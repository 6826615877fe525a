-- How many tries steps one after another make at most.
use Rattle.std.proofs.Common.{◌≡◌, ℕ, ◌+◌, ◌≤◌, inl, inr, sym, subst, arith}
use Rattle.std.specs.Prelude.{Result, Ok, Err}
use Rattle.sx_steps.specs.declared.stop.Stop.{Stop}
use Rattle.sx_steps.specs.declared.step_error.StepError.{StepError}
use Rattle.sx_steps.specs.declared.step_error.StepError.TheVariants as errors
use Rattle.sx_steps.specs.Steps.{Trying, Untried, GoesOn, AndThen}
use Rattle.sx_steps.proofs.Ones.{ok_no_err}
use Rattle.sx_compiling.proofs.RuleTries.{untried_none, no_sum, first_none, last_none}

-- the step makes at most so many tries
abbrev pub Most : {A : Type 0} → (Result A StepError → ℕ → Type 0) → ℕ → Type 0
Most {A} step most = (result : Result A StepError) (tries : ℕ) → step result tries → tries ≤ most

pub trying_most : {A : Type 0} (Walks : ℕ → Type 0) (step : Result A Stop → Type 0) (most : ℕ) →
    ((n : ℕ) → Walks n → n ≤ most) → Most (Trying Walks step) most
trying_most Walks step most few (Ok x) tries h = few tries h.1
trying_most Walks step most few (Err errors.Memory) tries (inl none) = omega (arith, none)
trying_most Walks step most few (Err errors.Memory) tries (inr (all, walks, less)) =
    let more = few all walks in
    omega (arith, more, less)
trying_most Walks step most few (Err (errors.Stopped stop)) tries h = few tries h.1

-- after a step that makes none
pub untried_most : {A B : Type 0} (step : Result A Stop → Type 0)
    (next : A → Result B StepError → ℕ → Type 0) (most : ℕ) →
    ((given : A) → step (Ok given) → Most (next given) most) →
    Most (AndThen (Untried step) next) most
untried_most {A = A} step next most more result tries h =
    from h.given h.before h.after h.begins h.goes h.sum
  where
    from : (given : Result A StepError) (before after : ℕ) → Untried step given before →
        GoesOn next given result after → tries ≡ before + after → tries ≤ most
    from (Ok given) before after begins goes sum =
        subst (λ (n : ℕ). n ≤ most) (sym (first_none tries before after sum begins.1))
        (more given begins.0 result after goes)
    from (Err e) before after begins goes sum =
        let none = no_sum tries before after sum (untried_none step (Err e) before begins) goes.1 in
        omega (arith, none)

-- before a step that makes none
pub most_untried : {A B : Type 0} (first : Result A StepError → ℕ → Type 0)
    (step : A → Result B Stop → Type 0) (most : ℕ) → Most first most →
    Most (AndThen first (λ given. Untried (step given))) most
most_untried {A = A} first step most few result tries h =
    from h.given h.before h.after h.begins h.goes h.sum
  where
    from : (given : Result A StepError) (before after : ℕ) → first given before →
        GoesOn (λ given. Untried (step given)) given result after → tries ≡ before + after →
        tries ≤ most
    from (Ok given) before after begins goes sum =
        subst (λ (n : ℕ). n ≤ most)
        (sym (last_none tries before after sum (untried_none (step given) result after goes)))
        (few (Ok given) before begins)
    from (Err e) before after begins goes sum =
        subst (λ (n : ℕ). n ≤ most) (sym (last_none tries before after sum goes.1))
        (few (Err e) before begins)

-- where steps end without a stop after a step that makes none, the tries are those that follow
pub record Passed {A B : Type 0} (step : Result A Stop → Type 0)
    (next : A → Result B StepError → ℕ → Type 0) (result : B) (tries : ℕ) : Type 0 where
  pub given : A
  pub begins : step (Ok given)
  pub goes : next given (Ok result) tries

pub passed : {A B : Type 0} (step : Result A Stop → Type 0)
    (next : A → Result B StepError → ℕ → Type 0) (result : B) (tries : ℕ) →
    AndThen (Untried step) next (Ok result) tries → Passed step next result tries
passed {A = A} step next result tries h = from h.given h.before h.after h.begins h.goes h.sum
  where
    from : (given : Result A StepError) (before after : ℕ) → Untried step given before →
        GoesOn next given (Ok result) after → tries ≡ before + after →
        Passed step next result tries
    from (Ok given) before after begins goes sum = record {
      given = given;
      begins = begins.0;
      goes = subst (λ (n : ℕ). next given (Ok result) n)
          (sym (first_none tries before after sum begins.1)) goes;
    }
    from (Err e) before after begins goes sum = absurd (ok_no_err result e goes.0)

-- where they end so before a step that makes none, the tries are those that were made before
pub record Began {A : Type 0} (first : Result A StepError → ℕ → Type 0) (tries : ℕ) : Type 0 where
  pub given : A
  pub begins : first (Ok given) tries

pub began : {A B : Type 0} (first : Result A StepError → ℕ → Type 0)
    (step : A → Result B Stop → Type 0) (result : B) (tries : ℕ) →
    AndThen first (λ given. Untried (step given)) (Ok result) tries → Began first tries
began {A = A} first step result tries h = from h.given h.before h.after h.begins h.goes h.sum
  where
    from : (given : Result A StepError) (before after : ℕ) → first given before →
        GoesOn (λ given. Untried (step given)) given (Ok result) after →
        tries ≡ before + after → Began first tries
    from (Ok given) before after begins goes sum = record {
      given = given;
      begins = subst (λ (n : ℕ). first (Ok given) n)
          (sym (last_none tries before after sum
          (untried_none (step given) (Ok result) after goes))) begins;
    }
    from (Err e) before after begins goes sum = absurd (ok_no_err result e goes.0)
