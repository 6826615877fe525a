-- Lists that go on.
use Rattle.std.proofs.Common.{◌≡◌, ℕ, zero, suc, ◌+◌, ◌<◌, List, [], ◌∷◌, ◌++◌, length, refl, ap, arith}
use Rattle.std.specs.Prelude.{slice_get}

pub got_before : {X : Type 0} (xs ys : List X) (k : ℕ) → k < length xs → slice_get (xs ++ ys) k ≡ slice_get xs k
got_before [] ys k lt = absurd (omega (arith, lt))
got_before (x ∷ xs) ys zero lt = refl
got_before (x ∷ xs) ys (suc k) lt = got_before xs ys k (omega (arith, lt))

pub got_behind-at : {X : Type 0} (xs ys : List X) (k n : ℕ) → k ≡ length xs + n → slice_get (xs ++ ys) k ≡ slice_get ys n
got_behind-at [] ys k n e = ap (slice_get ys) (omega (arith, e))
got_behind-at (x ∷ xs) ys zero n e = absurd (omega (arith, e))
got_behind-at (x ∷ xs) ys (suc k) n e = got_behind-at xs ys k n (omega (arith, e))
