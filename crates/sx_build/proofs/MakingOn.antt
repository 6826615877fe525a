-- Modules that are made one after another.
use Rattle.std.proofs.Common.{◌≡◌, ℕ, ◌+◌, ◌<◌, List, ◌∷◌, drop, length, get_or, refl, sym, subst, ◌≤◌}
use Rattle.std.proofs.Common.{arith}
use Rattle.std.specs.Prelude.{Result, Ok, Err}
use Rattle.sx_extcheck.specs.declared.budgets.Budgets.{Budgets}
use Rattle.sx_outside.specs.Files.{Files}
use Rattle.sx_steps.specs.declared.step_error.StepError.{StepError}
use Rattle.sx_accepting.specs.ReadLanguage.{Stated}
use Rattle.sx_headers.specs.ReadModule.{Module}
use Rattle.std.proofs.lemmas.List.{drop_all}
use Rattle.sx_importing.proofs.EachLoops.{left_next}
use Rattle.sx_build.specs.BuildModules.{BuildProgress, MakesNext, MakesAfter}

module _ (budgets : Budgets) (files : Files) (l : Stated) (start : BuildProgress) (ms : List Module) where
  -- what comes of the modules that are left, after so many tries, comes of all
  abbrev pub GoesOn : BuildProgress → ℕ → ℕ → Type 0
  GoesOn now i tries =
      (r : Result BuildProgress StepError) (more : ℕ) →
      MakesAfter budgets files l now (drop i ms) r more →
      MakesAfter budgets files l start ms r (tries + more)

  module _ (now : BuildProgress) (i tries : ℕ) (m : Module) (below : i < length ms)
      (is : m ≡ get_or ms i m) (goes : GoesOn now i tries) where
    step : (r : Result BuildProgress StepError) (more : ℕ) →
        MakesAfter budgets files l now (m ∷ drop (i + 1) ms) r more →
        MakesAfter budgets files l start ms r (tries + more)
    step r more h = goes r more
        (subst (λ (ys : List Module). MakesAfter budgets files l now ys r more)
        (sym (left_next ms i m below is)) h)

    pub goes_on : (next : BuildProgress) (one : ℕ) →
        MakesNext budgets files l now m (Ok next) one → GoesOn next (i + 1) (tries + one)
    goes_on next one h r more later =
        subst (λ (n : ℕ). MakesAfter budgets files l start ms r n) (omega arith)
        (step r (one + more) (record {
          given = Ok next;
          before = one;
          after = more;
          begins = h;
          goes = later;
          sum = refl;
        }))

    pub goes_stop : (e : StepError) (one : ℕ) → MakesNext budgets files l now m (Err e) one →
        MakesAfter budgets files l start ms (Err e) (tries + one)
    goes_stop e one h = step (Err e) one (record {
      given = Err e;
      before = one;
      after = 0;
      begins = h;
      goes = (refl, refl);
      sum = omega arith;
    })

  pub goes_end : (now : BuildProgress) (i tries : ℕ) → length ms ≤ i → GoesOn now i tries →
      MakesAfter budgets files l start ms (Ok now) tries
  goes_end now i tries le goes =
      subst (λ (n : ℕ). MakesAfter budgets files l start ms (Ok now) n) (omega arith)
      (goes (Ok now) 0
      (subst (λ (ys : List Module). MakesAfter budgets files l now ys (Ok now) 0)
      (sym (drop_all i ms le)) (refl, refl)))
