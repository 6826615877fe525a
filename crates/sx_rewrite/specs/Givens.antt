-- The givens of a derivation.
use Rattle.std.specs.Prelude.{◌≡◌, ℕ, suc, ◌+◌, ◌<◌, nat_eq, List, [], ◌∷◌, ◌++◌, length}
use Rattle.sx_rules.specs.Discipline.{one_when}
use Rattle.sx_rules.specs.Derivations.{Proof, Proofs, by, given, no_more, ◌⊳◌, proof_at, put_for}

-- the numbers of its givens in preorder
abbrev mutual
  pub givens_of : Proof → List ℕ
  givens_of (by r binds kids) = givens_of_all kids
  givens_of (given i) = i ∷ []

  -- those of each of the proofs
  pub givens_of_all : Proofs → List ℕ
  givens_of_all no_more = []
  givens_of_all (p ⊳ ps) = givens_of p ++ givens_of_all ps

-- the numbers count up from the first
abbrev pub CountUpFrom : ℕ → List ℕ → Type 0
CountUpFrom first [] = Unit {0}
CountUpFrom first (i ∷ is) = (i ≡ first) × CountUpFrom (suc first) is

-- the proof with its givens numbered from the first number on, in preorder
abbrev mutual
  pub numbered_proof : ℕ → Proof → Proof
  numbered_proof first (by r binds kids) = by r binds (all_numbered first kids)
  numbered_proof first (given i) = given first

  -- the proofs with theirs numbered, one proof after another
  pub all_numbered : ℕ → Proofs → Proofs
  all_numbered first no_more = no_more
  all_numbered first (p ⊳ ps) =
      numbered_proof first p ⊳ all_numbered (first + length (givens_of p)) ps

-- the proof at each of the numbers, one after another
abbrev pub placed_at : Proofs → List ℕ → Proofs
placed_at proofs [] = no_more
placed_at proofs (i ∷ is) = put_for (proof_at proofs i) i ⊳ placed_at proofs is

-- how often the number stands in the list
abbrev pub number_times : ℕ → List ℕ → ℕ
number_times i [] = 0
number_times i (j ∷ js) = one_when (nat_eq i j) + number_times i js

-- each number is below the bound
abbrev pub NumbersBelow : ℕ → List ℕ → Type 0
NumbersBelow bound [] = Unit {0}
NumbersBelow bound (i ∷ is) = (i < bound) × NumbersBelow bound is
