-- A step that is made for each of a list, one after the other.
use Rattle.std.proofs.Common.{◌≡◌, ℕ, suc, ◌+◌, ◌<◌, ◌≤◌, List, [], ◌∷◌, ◌++◌, length, drop, get_or}
use Rattle.std.proofs.Common.{refl, sym, ap, ◌∙◌, subst, append_assoc, arith}
use Rattle.std.proofs.Math.Seq.{drop-cons}
use Rattle.std.proofs.lemmas.List.{drop_all, append-nil}
use Rattle.std.specs.Prelude.{Result, Ok, Err}
use Rattle.sx_steps.specs.declared.step_error.StepError.{StepError}
use Rattle.sx_steps.specs.declared.step_error.StepError.TheVariants as errors
use Rattle.sx_steps.specs.declared.stop.Stop.{Stop}
use Rattle.sx_steps.specs.Stop.{Gives}
use Rattle.sx_steps.proofs.Ones.{IsOne, then_one}
use Rattle.sx_importing.specs.Each.{GivesNext, GivesAfter, ForEach}

module _ {A : Type 0} (xs : List A) where
  -- those that are left begin with this one
  pub left_next : (i : ℕ) (x : A) → i < length xs → x ≡ get_or xs i x →
      drop i xs ≡ x ∷ drop (i + 1) xs
  left_next i x lt is =
      let one : suc i ≡ i + 1 = omega arith in
      drop-cons xs i x lt ∙ (λ k. sym is k ∷ drop (one k) xs)

  -- those so far, with those that are left, are all
  abbrev pub Have : List A → ℕ → Type 0
  Have so_far i = so_far ++ drop i xs ≡ xs

  pub have_next : (so_far more : List A) (i : ℕ) (x : A) → i < length xs → x ≡ get_or xs i x →
      more ≡ so_far ++ x ∷ [] → Have so_far i → Have more (i + 1)
  have_next so_far more i x lt is made have =
      ap (λ (l : List A). l ++ drop (i + 1) xs) made
      ∙ append_assoc so_far (x ∷ []) (drop (i + 1) xs)
      ∙ ap (λ (l : List A). so_far ++ l) (sym (left_next i x lt is)) ∙ have

  pub have_end : (so_far : List A) (i : ℕ) → length xs ≤ i → Have so_far i → so_far ≡ xs
  have_end so_far i le have =
      sym (append-nil so_far) ∙ ap (λ (l : List A). so_far ++ l) (sym (drop_all i xs le)) ∙ have

module _ {A B : Type 0} (Step : A → Result B Stop → Type 0) (xs : List A) where
  -- what comes of those that are left, behind what was given, comes of all
  abbrev pub GoesOn : List B → ℕ → Type 0
  GoesOn given i =
      (r : Result (List B) Stop) → GivesAfter Step given (drop i xs) r → ForEach Step xs r

  module _ (given : List B) (i : ℕ) (x : A) (lt : i < length xs) (is : x ≡ get_or xs i x)
      (goes : GoesOn given i) where
    step : (r : Result (List B) Stop) → GivesAfter Step given (x ∷ drop (i + 1) xs) r →
        ForEach Step xs r
    step r h = goes r
        (subst (λ (ys : List A). GivesAfter Step given ys r) (sym (left_next xs i x lt is)) h)

    pub goes_next : (next : List B) → GivesNext Step given x (Ok next) → GoesOn next (i + 1)
    goes_next next h r later = step r (record { given = Ok next; begins = h; goes = later })

    pub goes_stop : {X Y : Type 0} (view : X → List B) (seen : Y → List B) (e : StepError) →
        Gives seen (GivesNext Step given x) (Err e) → Gives view (ForEach Step xs) (Err e)
    goes_stop view seen errors.Memory h = tt
    goes_stop view seen (errors.Stopped stop) h =
        step (Err stop) (record { given = Err stop; begins = h; goes = refl })

  pub goes_end : (given : List B) (i : ℕ) → length xs ≤ i → GoesOn given i →
      ForEach Step xs (Ok given)
  goes_end given i le goes = goes (Ok given)
      (subst (λ (ys : List A). GivesAfter Step given ys (Ok given)) (sym (drop_all i xs le)) refl)

-- ---- one result

pub is_given : {B : Type 0} (v : Result B Stop) → IsOne (λ (r : Result B Stop). r ≡ v)
is_given v x y h k n m = h ∙ sym k

module _ {A B : Type 0} (Step : A → Result B Stop → Type 0) (one : (x : A) → IsOne (Step x)) where
  after_one : (given : List B) (xs : List A) → IsOne (GivesAfter Step given xs)
  after_one given [] = is_given (Ok given)
  after_one given (x ∷ xs) =
      then_one (GivesNext Step given x) (λ next. GivesAfter Step next xs)
      (then_one (Step x) (λ y result. result ≡ Ok (given ++ y ∷ [])) (one x)
      (λ y is. is_given (Ok (given ++ y ∷ []))))
      (λ next is. after_one next xs)

  -- where the step has one result for each, it has one for all
  pub each_one : (xs : List A) → IsOne (ForEach Step xs)
  each_one xs = after_one [] xs
