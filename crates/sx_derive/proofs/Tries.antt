-- Events that begin with tries.
use Rattle.std.proofs.Common.{◌≡◌, ℕ, zero, suc, List, ◌∷◌, ◌++◌, refl, ap}
use Rattle.sx_derive.specs.Walk.{Event, try, tries_then, then_each}
use Rattle.sx_derive.specs.Quiet.{first_given}

pub tries-append : {A : Type 0} (n : ℕ) (es fs : List (Event A)) → tries_then n es ++ fs ≡ tries_then n (es ++ fs)
tries-append zero es fs = refl
tries-append (suc n) es fs = ap (λ xs. try ∷ xs) (tries-append n es fs)

pub tries-each : {A B : Type 0} (f : A → List (Event B)) (n : ℕ) (es : List (Event A)) → then_each f (tries_then n es) ≡ tries_then n (then_each f es)
tries-each f zero es = refl
tries-each f (suc n) es = ap (λ xs. try ∷ xs) (tries-each f n es)

pub tries-first : {A : Type 0} (n : ℕ) (es : List (Event A)) → first_given (tries_then n es) ≡ first_given es
tries-first zero es = refl
tries-first (suc n) es = tries-first n es
