-- A step that is made for each of a list.
use Rattle.std.specs.Prelude.{◌≡◌, List, [], ◌∷◌, ◌++◌, Result, Ok}
use Rattle.sx_steps.specs.declared.stop.Stop.{Stop}
use Rattle.sx_steps.specs.Steps.{Then}

-- what the step gives for this one stands behind what was given
abbrev pub GivesNext : {A B : Type 0} → (A → Result B Stop → Type 0) → List B → A →
    Result (List B) Stop → Type 0
GivesNext Step given x = Then (Step x) (λ y result. result ≡ Ok (given ++ y ∷ []))

-- so does what it gives for the others, in order
abbrev pub GivesAfter : {A B : Type 0} → (A → Result B Stop → Type 0) → List B → List A →
    Result (List B) Stop → Type 0
GivesAfter Step given [] result = result ≡ Ok given
GivesAfter Step given (x ∷ xs) result =
    Then (GivesNext Step given x) (λ next. GivesAfter Step next xs) result

-- what the step gives for each, in order, or the first stop
abbrev pub ForEach : {A B : Type 0} → (A → Result B Stop → Type 0) → List A →
    Result (List B) Stop → Type 0
ForEach Step xs = GivesAfter Step [] xs
