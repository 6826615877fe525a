-- Items by their numbers in a list that grows.
use Rattle.std.proofs.Common.{◌≡◌, ◌∙◌, ℕ, zero, suc, ◌<◌, List, [], ◌∷◌, ◌++◌, Some, refl, sym, ap, length, arith}
use Rattle.std.specs.List.{slice_get}
use Rattle.std.proofs.lemmas.Option.{slice_get_within}
use Rattle.sx_earley.specs.Growth.{GoesOnFrom}

got_before : {X : Type 0} (xs ys : List X) (n : ℕ) → n < length xs → slice_get (xs ++ ys) n ≡ slice_get xs n
got_before [] ys n low = absurd (omega arith)
got_before (x ∷ xs) ys zero low = refl
got_before (x ∷ xs) ys (suc n) low = got_before xs ys n (omega arith)

-- what stands at a place of the shorter list stands there in the longer one
got_same : {X : Type 0} (a b : List X) (n : ℕ) → GoesOnFrom a b → n < length a → slice_get b n ≡ slice_get a n
got_same a b n h low = ap (λ l. slice_get l n) h.1 ∙ got_before a h.0 n low

pub got_earlier : {X : Type 0} (a b : List X) (n : ℕ) (x : X) → GoesOnFrom a b → n < length a → slice_get b n ≡ Some x → slice_get a n ≡ Some x
got_earlier a b n x h low at = sym (got_same a b n h low) ∙ at

pub got_later : {X : Type 0} (a b : List X) (n : ℕ) (x : X) → GoesOnFrom a b → slice_get a n ≡ Some x → slice_get b n ≡ Some x
got_later a b n x h at = got_same a b n h (slice_get_within a n x at) ∙ at
