-- Steps with one result, but for stops that are related.
use Rattle.std.proofs.Common.{◌≡◌, sym, subst}
use Rattle.std.specs.Prelude.{Result, Ok, Err}
use Rattle.sx_steps.specs.declared.stop.Stop.{Stop}
use Rattle.sx_steps.specs.Agree.{IsNoReadFault, AnswersBy}
use Rattle.sx_steps.specs.Steps.{Then, StepsGo}
use Rattle.sx_steps.proofs.Ones.{IsOne, as_answer, equal_by}

module _ (Related : Stop → Stop → Type 0) where
  -- the step has one result, but for such stops; read faults aside
  abbrev pub IsOneAs : {A : Type 0} → (Result A Stop → Type 0) → Type 0
  IsOneAs {A} step = (x y : Result A Stop) → step x → step y → IsNoReadFault x →
      IsNoReadFault y → AnswersBy Related (as_answer x) (as_answer y)

  module _ (same : (s : Stop) → Related s s) where
    pub one_as : {A : Type 0} (step : Result A Stop → Type 0) → IsOne step → IsOneAs step
    one_as step one x y h k n m = equal_by Related same x y (one x y h k n m)

  module _ {A B : Type 0} (first : Result A Stop → Type 0) (next : A → Result B Stop → Type 0)
      (one : IsOneAs first) (more : (given : A) → first (Ok given) → IsOneAs (next given)) where
    no_fault_as : (x : Result B Stop) (s : Stop) → x ≡ Err s → IsNoReadFault x →
        IsNoReadFault {A = A} (Err s)
    no_fault_as x s same none = subst (λ (z : Result B Stop). IsNoReadFault z) same none

    goes_as : (g k : Result A Stop) (x y : Result B Stop) → first g → first k → StepsGo next g x →
        StepsGo next k y → IsNoReadFault x → IsNoReadFault y →
        AnswersBy Related (as_answer x) (as_answer y)
    goes_as (Ok a) (Ok b) x y f e h j n m =
        let same = one (Ok a) (Ok b) f e tt tt in
        more a f x y h (subst (λ (z : A). next z y) (sym same) j) n m
    goes_as (Ok a) (Err t) x y f e h j n m =
        absurd (one (Ok a) (Err t) f e tt (no_fault_as y t j m))
    goes_as (Err s) (Ok b) x y f e h j n m =
        absurd (one (Err s) (Ok b) f e (no_fault_as x s h n) tt)
    goes_as (Err s) (Err t) x y f e h j n m =
        subst (λ (z : Result B Stop). AnswersBy Related (as_answer z) (as_answer y)) (sym h)
        (subst (λ (z : Result B Stop). AnswersBy Related (as_answer {A = B} (Err s)) (as_answer z))
        (sym j) (one (Err s) (Err t) f e (no_fault_as x s h n) (no_fault_as y t j m)))

    pub then_as : IsOneAs (Then first next)
    then_as x y h k n m =
        goes_as h.given k.given x y h.begins k.begins h.goes k.goes n m
