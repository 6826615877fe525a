-- Steps have one result, read faults aside.
use Rattle.std.proofs.Common.{◌≡◌, ◌≢◌, ℕ, ◌+◌, ◌≤◌, List, length, refl, ap, ◌∙◌, sym, subst, inl, inr, arith}
use Rattle.std.specs.Prelude.{Result, Ok, Err, Option, Some, None}
use Rattle.sx_outside.specs.Files.{Files}
use Rattle.sx_steps.specs.declared.stop.Stop.{Stop}
use Rattle.sx_steps.specs.declared.status.Status.TheVariants as statuses
use Rattle.sx_steps.specs.Refusal.{status_of}
use Rattle.sx_steps.specs.declared.step_error.StepError.{StepError}
use Rattle.sx_steps.specs.declared.step_error.StepError.TheVariants as errors
use Rattle.sx_steps.specs.Steps.{Then, StepsGo, NoTries, Trying, GoesOn, AndThen}
use Rattle.sx_steps.specs.Held.{Held, IsLong}
use Rattle.sx_steps.specs.Lower.{Lower}
use Rattle.sx_steps.specs.Agree.{IsNoReadFault, IsSure, AnswersBy}

-- ---- steps

-- the step has one result, read faults aside
abbrev pub IsOne : {A : Type 0} → (Result A Stop → Type 0) → Type 0
IsOne {A} step = (x y : Result A Stop) → step x → step y → IsNoReadFault x → IsNoReadFault y → x ≡ y

pub ok_same : {A B : Type 0} (a b : A) → ◌≡◌ {A = Result A B} (Ok a) (Ok b) → a ≡ b
ok_same a b e = cc

pub err_same : {A B : Type 0} (s t : B) → ◌≡◌ {A = Result A B} (Err s) (Err t) → s ≡ t
err_same s t e = cc

pub ok_no_err : {A B : Type 0} (a : A) (s : B) → ◌≡◌ {A = Result A B} (Ok a) (Err s) → ⊥
ok_no_err a s e = cc

pub some_same : {A : Type 0} (a b : A) → Some a ≡ Some b → a ≡ b
some_same a b e = cc

pub none_some : {A : Type 0} (a : A) → ◌≡◌ {A = Option A} None (Some a) → ⊥
none_some a e = cc

module _ {A B : Type 0} (first : Result A Stop → Type 0) (next : A → Result B Stop → Type 0) (one : IsOne first) (more : (given : A) → first (Ok given) → IsOne (next given)) where
  goes_one : (g k : Result A Stop) (x y : Result B Stop) → first g → first k → StepsGo next g x → StepsGo next k y → IsNoReadFault x → IsNoReadFault y → x ≡ y
  goes_one (Ok a) (Ok b) x y f e h j n m =
      let same = ok_same a b (one (Ok a) (Ok b) f e tt tt) in
      more a f x y h (subst (λ (z : A). next z y) (sym same) j) n m
  goes_one (Ok a) (Err s) x y f e h j n m = absurd (ok_no_err a s (one (Ok a) (Err s) f e tt (subst (λ (z : Result B Stop). IsNoReadFault z) j m)))
  goes_one (Err s) (Ok b) x y f e h j n m = absurd (ok_no_err b s (one (Ok b) (Err s) e f tt (subst (λ (z : Result B Stop). IsNoReadFault z) h n)))
  goes_one (Err s) (Err t) x y f e h j n m =
      let same = err_same s t (one (Err s) (Err t) f e (subst (λ (z : Result B Stop). IsNoReadFault z) h n) (subst (λ (z : Result B Stop). IsNoReadFault z) j m)) in
      h ∙ ap (λ (z : Stop). Err z) same ∙ sym j

  pub then_one : IsOne (Then first next)
  then_one x y h k n m = goes_one h.given k.given x y h.begins k.begins h.goes k.goes n m

-- ---- steps with tries

-- the step has one answer, but for stops that are so related, and one number of tries; read faults and out of memory aside
abbrev pub IsOneBy : {A : Type 0} → (Stop → Stop → Type 0) → (Result A StepError → ℕ → Type 0) → Type 0
IsOneBy {A} Related step = (x y : Result A StepError) (m n : ℕ) → step x m → step y n → IsSure x → IsSure y → AnswersBy Related x y × (m ≡ n)

-- so it is of a step with one number of tries
abbrev pub IsOneNumber : (ℕ → Type 0) → Type 0
IsOneNumber Walks = (m n : ℕ) → Walks m → Walks n → m ≡ n

pub no_tries_one : IsOneNumber NoTries
no_tries_one m n h k = h ∙ sym k

-- the answer of a step, as of one that may be out of memory
abbrev pub as_answer : {A : Type 0} → Result A Stop → Result A StepError
as_answer (Ok x) = Ok x
as_answer (Err stop) = Err (errors.Stopped stop)

sums : (m n a b c d : ℕ) → m ≡ a + b → n ≡ c + d → a ≡ c → b ≡ d → m ≡ n
sums m n a b c d e f g h = omega arith

module _ (Related : Stop → Stop → Type 0) where
  -- a step with one answer
  module _ {A : Type 0} (Walks : ℕ → Type 0) (step : Result A Stop → Type 0) (one : IsOneNumber Walks)
      (answers : (x y : Result A Stop) → step x → step y → IsNoReadFault x → IsNoReadFault y → AnswersBy Related (as_answer x) (as_answer y)) where
    pub trying_by : IsOneBy Related (Trying Walks step)
    trying_by (Ok x) (Ok y) m n h k p q = (answers (Ok x) (Ok y) h.0 k.0 tt tt, one m n h.1 k.1)
    trying_by (Ok x) (Err (errors.Stopped t)) m n h k p q = (answers (Ok x) (Err t) h.0 k.0 tt q, one m n h.1 k.1)
    trying_by (Err (errors.Stopped s)) (Ok y) m n h k p q = (answers (Err s) (Ok y) h.0 k.0 p tt, one m n h.1 k.1)
    trying_by (Err (errors.Stopped s)) (Err (errors.Stopped t)) m n h k p q = (answers (Err s) (Err t) h.0 k.0 p q, one m n h.1 k.1)
    trying_by (Ok x) (Err errors.Memory) m n h k p q = absurd q
    trying_by (Err errors.Memory) y m n h k p q = absurd p
    trying_by (Err (errors.Stopped s)) (Err errors.Memory) m n h k p q = absurd q

  module _ {A B : Type 0} (first : Result A StepError → ℕ → Type 0) (next : A → Result B StepError → ℕ → Type 0) (one : IsOneBy Related first) (more : (given : A) (before : ℕ) → first (Ok given) before → IsOneBy Related (next given)) where
    sure_as : (x y : Result B StepError) → x ≡ y → IsSure x → IsSure y
    sure_as x y same sure = subst (λ (z : Result B StepError). IsSure z) same sure

    -- the first answers, and what goes on from them
    goes_on_by : (g k : Result A StepError) (x y : Result B StepError) (a b c d : ℕ) → first g a → first k c → GoesOn next g x b → GoesOn next k y d → IsSure x → IsSure y → AnswersBy Related x y × (a ≡ c) × (b ≡ d)
    goes_on_by (Ok v) (Ok w) x y a b c d f e h j p q =
        let same = one (Ok v) (Ok w) a c f e tt tt in
        let rest = more v a f x y b d h (subst (λ (z : A). next z y d) (sym same.0) j) p q in
        (rest.0, same.1, rest.1)
    goes_on_by (Ok v) (Err errors.Memory) x y a b c d f e h j p q = absurd (sure_as y (Err errors.Memory) j.0 q)
    goes_on_by (Ok v) (Err (errors.Stopped t)) x y a b c d f e h j p q = absurd ((one (Ok v) (Err (errors.Stopped t)) a c f e tt (sure_as y (Err (errors.Stopped t)) j.0 q)).0)
    goes_on_by (Err errors.Memory) k x y a b c d f e h j p q = absurd (sure_as x (Err errors.Memory) h.0 p)
    goes_on_by (Err (errors.Stopped s)) (Ok w) x y a b c d f e h j p q = absurd ((one (Err (errors.Stopped s)) (Ok w) a c f e (sure_as x (Err (errors.Stopped s)) h.0 p) tt).0)
    goes_on_by (Err (errors.Stopped s)) (Err errors.Memory) x y a b c d f e h j p q = absurd (sure_as y (Err errors.Memory) j.0 q)
    goes_on_by (Err (errors.Stopped s)) (Err (errors.Stopped t)) x y a b c d f e h j p q =
        let same = one (Err (errors.Stopped s)) (Err (errors.Stopped t)) a c f e (sure_as x (Err (errors.Stopped s)) h.0 p) (sure_as y (Err (errors.Stopped t)) j.0 q) in (
          subst (λ (z : Result B StepError). AnswersBy Related z y) (sym h.0) (subst (λ (z : Result B StepError). AnswersBy Related (Err (errors.Stopped s)) z) (sym j.0) same.0),
          same.1,
          h.1 ∙ sym j.1,
        )

    pub and_then_by : IsOneBy Related (AndThen first next)
    and_then_by x y m n h k p q =
        let both = goes_on_by h.given k.given x y h.before h.after k.before k.after h.begins k.begins h.goes k.goes p q in
        (both.0, sums m n h.before h.after k.before k.after h.sum k.sum both.1 both.2)

-- a step with one answer
module _ (Related : Stop → Stop → Type 0) (same : (s : Stop) → Related s s) where
  pub equal_by : {A : Type 0} (x y : Result A Stop) → x ≡ y → AnswersBy Related (as_answer x) (as_answer y)
  equal_by (Ok a) (Ok b) e = ok_same a b e
  equal_by (Ok a) (Err t) e = ok_no_err a t e
  equal_by (Err s) (Ok b) e = ok_no_err b s (sym e)
  equal_by (Err s) (Err t) e = subst (Related s) (err_same s t e) (same s)

  pub trying_same : {A : Type 0} (Walks : ℕ → Type 0) (step : Result A Stop → Type 0) → IsOneNumber Walks → IsOne step → IsOneBy Related (Trying Walks step)
  trying_same Walks step one is_one = trying_by Related Walks step one (λ x y h k n m. equal_by x y (is_one x y h k n m))

pub trying_one : {A : Type 0} (Walks : ℕ → Type 0) (step : Result A Stop → Type 0) → IsOneNumber Walks → IsOne step → IsOneBy ◌≡◌ (Trying Walks step)
trying_one Walks step one is_one = trying_same ◌≡◌ (λ s. refl) Walks step one is_one

-- answers that are one, as equal ones
pub answers_same : {A : Type 0} (x y : Result A StepError) → AnswersBy ◌≡◌ x y → x ≡ y
answers_same (Ok a) (Ok b) same = ap (λ (v : _). Ok v) same
answers_same (Ok a) (Err e) same = absurd same
answers_same (Err errors.Memory) y same = absurd same
answers_same (Err (errors.Stopped s)) (Ok b) same = absurd same
answers_same (Err (errors.Stopped s)) (Err errors.Memory) same = absurd same
answers_same (Err (errors.Stopped s)) (Err (errors.Stopped t)) same = ap (λ (v : Stop). Err (errors.Stopped v)) same

-- answers whose stops are related in one way, where this is another
module _ (P Q : Stop → Stop → Type 0) (so : (s t : Stop) → P s t → Q s t) where
  pub answers_so : {A : Type 0} (x y : Result A StepError) → AnswersBy P x y → AnswersBy Q x y
  answers_so (Ok a) (Ok b) same = same
  answers_so (Ok a) (Err e) same = absurd same
  answers_so (Err errors.Memory) y same = absurd same
  answers_so (Err (errors.Stopped s)) (Ok b) same = absurd same
  answers_so (Err (errors.Stopped s)) (Err errors.Memory) same = absurd same
  answers_so (Err (errors.Stopped s)) (Err (errors.Stopped t)) same = so s t same

-- ---- files

module _ (limit : ℕ) (name : List ℕ) (files : Files) where
  long_short : (bytes : List ℕ) → files name ≡ Some bytes → length bytes ≤ limit → IsLong limit files name → ⊥
  long_short bytes is short long =
      let same = some_same bytes long.0 (sym is ∙ long.1) in
      let less = subst (λ (l : List ℕ). length l ≤ limit) same short in
      let more = long.2 in
      omega arith

  ok_err : (bytes : List ℕ) (stop : Stop) → Held limit name files (Ok bytes) → Held limit name files (Err stop) → (status_of stop ≡ statuses.ReadFault → ⊥) → ⊥
  ok_err bytes stop h (inl k) n = none_some bytes (sym k.1 ∙ h.0)
  ok_err bytes stop h (inr (inl k)) n = long_short bytes h.0 h.1 k.1
  ok_err bytes stop h (inr (inr k)) n = n (ap status_of k)

  err_err : (s t : Stop) → Held limit name files (Err s) → Held limit name files (Err t) → (status_of s ≡ statuses.ReadFault → ⊥) → (status_of t ≡ statuses.ReadFault → ⊥) → s ≡ t
  err_err s t (inl h) (inl k) n m = h.0 ∙ sym k.0
  err_err s t (inl h) (inr (inl k)) n m = absurd (none_some k.1.0 (sym h.1 ∙ k.1.1))
  err_err s t (inr (inl h)) (inl k) n m = absurd (none_some h.1.0 (sym k.1 ∙ h.1.1))
  err_err s t (inr (inl h)) (inr (inl k)) n m = h.0 ∙ sym k.0
  err_err s t (inr (inr h)) k n m = absurd (n (ap status_of h))
  err_err s t h (inr (inr k)) n m = absurd (m (ap status_of k))

  pub held_one : IsOne (Held limit name files)
  held_one (Ok a) (Ok b) h k n m = ap Ok (some_same a b (sym h.0 ∙ k.0))
  held_one (Ok a) (Err t) h k n m = absurd (ok_err a t h k m)
  held_one (Err s) (Ok b) h k n m = absurd (ok_err b s k h n)
  held_one (Err s) (Err t) h k n m = ap Err (err_err s t h k n m)

-- ---- calls below

-- where a call below has one answer, out of memory aside, so has the step
module _ {A E : Type 0} (stop_of : E → Option Stop) (Answers : Result A E → Type 0) (memory : E) (none : stop_of memory ≡ None)
    (one : (x y : Result A E) → Answers x → Answers y → (x ≢ Err memory) → (y ≢ Err memory) → x ≡ y) where
  not_lacking : (e : E) (stop : Stop) → stop_of e ≡ Some stop → ◌≢◌ {A = Result A E} (Err e) (Err memory)
  not_lacking e stop is same = none_some stop (sym none ∙ ap stop_of (sym (err_same e memory same)) ∙ is)

  given_value : (a : A) → ◌≢◌ {A = Result A E} (Ok a) (Err memory)
  given_value a same = ok_no_err a memory same

  pub lower_but : IsOne (Lower stop_of Answers)
  lower_but (Ok a) (Ok b) h k n m = ap Ok (ok_same a b (one (Ok a) (Ok b) h k (given_value a) (given_value b)))
  lower_but (Ok a) (Err t) h k n m = absurd (ok_no_err a k.0 (one (Ok a) (Err k.0) h k.1 (given_value a) (not_lacking k.0 t k.2)))
  lower_but (Err s) (Ok b) h k n m = absurd (ok_no_err b h.0 (one (Ok b) (Err h.0) k h.1 (given_value b) (not_lacking h.0 s h.2)))
  lower_but (Err s) (Err t) h k n m =
      let same = err_same h.0 k.0 (one (Err h.0) (Err k.0) h.1 k.1 (not_lacking h.0 s h.2) (not_lacking k.0 t k.2)) in
      ap Err (some_same s t (sym h.2 ∙ ap stop_of same ∙ k.2))
