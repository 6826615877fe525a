-- What stands after a file was put.
use Rattle.std.specs.Prelude.{◌≡◌, ◌≢◌, ℕ, Bool, true, false, List, Some, if◌then◌else◌, refl}
use Rattle.std.proofs.Common.{sym}
use Rattle.std.proofs.lemmas.Bool.{false≢true}
use Rattle.std.proofs.lemmas.Slice.Eq.{bytes_eq-Decides}
use Rattle.std.specs.Str.{bytes_eq}
use Rattle.sx_outside.specs.Files.{Files, put}

chosen : {A : Type 0} (b : Bool) (x y : A) → (b ≡ true) → (if b then x else y) ≡ x
chosen true x y is = refl
chosen false x y is = absurd (false≢true is)

left_out : {A : Type 0} (b : Bool) (x y : A) → (b ≡ true → ⊥) → (if b then x else y) ≡ y
left_out true x y wrong = absurd (wrong refl)
left_out false x y wrong = refl

-- under the name that was put stand its bytes
pub put-same : (files : Files) (name bytes : List ℕ) → put files name bytes name ≡ Some bytes
unfolding put
put-same files name bytes = chosen (bytes_eq name name) (Some bytes) (files name)
    ((bytes_eq-Decides name name).1 refl)

-- and all else stays
pub put-other : (files : Files) (name bytes other : List ℕ) → other ≢ name →
    put files name bytes other ≡ files other
unfolding put
put-other files name bytes other differs = left_out (bytes_eq name other) (Some bytes) (files other)
    (λ is. differs (sym ((bytes_eq-Decides name other).0 is)))
