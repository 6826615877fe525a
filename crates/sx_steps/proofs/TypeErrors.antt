-- What holds of each stop of a step that is a type error.
use Rattle.std.proofs.Common.{◌≡◌, ℕ, List, inl, inr, sym, subst}
use Rattle.std.specs.Prelude.{Result, Ok, Err, Option, Some, None}
use Rattle.sx_rules.specs.declared.error.RuleError.{RuleError}
use Rattle.sx_rules.specs.declared.error.RuleError.TheVariants as rule_error
use Rattle.sx_outside.specs.Files.{Files}
use Rattle.sx_steps.specs.declared.stop.Stop.{Stop}
use Rattle.sx_steps.specs.declared.step_error.StepError.{StepError}
use Rattle.sx_steps.specs.declared.step_error.StepError.TheVariants as errors
use Rattle.sx_steps.specs.Held.{Held}
use Rattle.sx_steps.specs.Refusal.{absent, read_fault}
use Rattle.sx_steps.specs.Steps.{Then, StepsGo, Trying, GoesOn, AndThen}
use Rattle.sx_steps.specs.Stops.{too_long, bad_rules}
use Rattle.sx_steps.specs.TypeErrors.{IsTypeError}
use Rattle.sx_steps.proofs.Ones.{err_same}

stopped_same : {A : Type 0} (s t : Stop) → ◌≡◌ {A = Result A StepError} (Err (errors.Stopped s)) (Err (errors.Stopped t)) → s ≡ t
stopped_same s t e = cc

module _ (Q : Stop → Type 0) where
  -- ---- stops

  -- where there is a stop that is a type error, it is so
  abbrev pub OnTypeError : Option Stop → Type 0
  OnTypeError None = Unit {0}
  OnTypeError (Some stop) = IsTypeError stop → Q stop

  pub on_stop : (x : Option Stop) (stop : Stop) → OnTypeError x → x ≡ Some stop → IsTypeError stop → Q stop
  on_stop x stop h is = subst OnTypeError is h

  -- a stop that is no type error
  pub no_type_error : (x stop : Stop) → (IsTypeError x → ⊥) → stop ≡ x → IsTypeError stop → Q stop
  no_type_error x stop none is error = absurd (none (subst IsTypeError is error))

  pub no_rules : (file : List ℕ) (told : ℕ → List ℕ) (e : RuleError) → OnTypeError (bad_rules file told e)
  no_rules file told rule_error.Memory = tt
  no_rules file told rule_error.TooManyRules = λ h. absurd h
  no_rules file told (rule_error.TooManyVars name) = λ h. absurd h
  no_rules file told (rule_error.SameRule name) = λ h. absurd h
  no_rules file told (rule_error.SortDiffers name) = λ h. absurd h
  no_rules file told (rule_error.Discipline name part premise) = λ h. absurd h
  no_rules file told (rule_error.NotModed name variable) = λ h. absurd h

  -- ---- steps

  -- each stop of the step that is a type error is so
  abbrev pub Final : {A : Type 0} → (Result A Stop → Type 0) → Type 0
  Final {A} step = (stop : Stop) → step (Err stop) → IsTypeError stop → Q stop

  module _ {A B : Type 0} (first : Result A Stop → Type 0) (next : A → Result B Stop → Type 0) (begins : Final first) (goes : (given : A) → first (Ok given) → Final (next given)) where
    goes_final : (g : Result A Stop) (stop : Stop) → first g → StepsGo next g (Err stop) → IsTypeError stop → Q stop
    goes_final (Ok given) stop h k = goes given h stop k
    goes_final (Err s) stop h k = begins stop (subst (λ (x : Stop). first (Err x)) (sym (err_same stop s k)) h)

    pub then_final : Final (Then first next)
    then_final stop h = goes_final h.given stop h.begins h.goes

  -- so it is of a step with tries
  abbrev pub FinalTrying : {A : Type 0} → (Result A StepError → ℕ → Type 0) → Type 0
  FinalTrying {A} step = (stop : Stop) (tries : ℕ) → step (Err (errors.Stopped stop)) tries → IsTypeError stop → Q stop

  pub trying_final : {A : Type 0} (Walks : ℕ → Type 0) (step : Result A Stop → Type 0) → Final step → FinalTrying (Trying Walks step)
  trying_final Walks step final stop tries h = final stop h.0

  module _ {A B : Type 0} (first : Result A StepError → ℕ → Type 0) (next : A → Result B StepError → ℕ → Type 0) (begins : FinalTrying first) (goes : (given : A) (before : ℕ) → first (Ok given) before → FinalTrying (next given)) where
    goes_on_final : (g : Result A StepError) (stop : Stop) (before after : ℕ) → first g before → GoesOn next g (Err (errors.Stopped stop)) after → IsTypeError stop → Q stop
    goes_on_final (Ok given) stop before after h k = goes given before h stop after k
    goes_on_final (Err errors.Memory) stop before after h k = let none = k.0 in absurd cc
    goes_on_final (Err (errors.Stopped s)) stop before after h k = begins stop before (subst (λ (x : Stop). first (Err (errors.Stopped x)) before) (sym (stopped_same stop s k.0)) h)

    pub and_then_final : FinalTrying (AndThen first next)
    and_then_final stop tries h = goes_on_final h.given stop h.before h.after h.begins h.goes

  -- ---- files

  pub held_final : (limit : ℕ) (name : List ℕ) (files : Files) → Final (Held limit name files)
  held_final limit name files stop (inl h) = no_type_error (absent name) stop (λ h. h) h.0
  held_final limit name files stop (inr (inl h)) = no_type_error (too_long name) stop (λ h. h) h.0
  held_final limit name files stop (inr (inr h)) = no_type_error (read_fault name) stop (λ h. h) h
