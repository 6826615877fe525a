-- A stop that is made is the one that is told.
use Rattle.std.proofs.Common.{◌≡◌, Option, Some, Result, Ok, Err, sym, ap, ◌∙◌}
use Rattle.std.specs.Prelude.{IfOk}

pub is_told : {A E : Type 0} (told : Option A) (stop : A) (made : Result A E) → told ≡ Some stop →
    IfOk made (λ (x : A). x ≡ stop) → IfOk made (λ (x : A). told ≡ Some x)
is_told told stop (Ok x) e h = e ∙ ap Some (sym h)
is_told told stop (Err x) e h = tt
