-- Derivations whose entries stand in a list.
use Rattle.std.specs.Prelude.{◌≡◌, ℕ, ◌+◌, ◌≤◌, List, [], ◌∷◌, ◌++◌, length, drop, get_or}
use Rattle.sx_rules.specs.Derivations.{Proof, Proofs, no_more, ◌⊳◌, nodes_of}
use Rattle.sx_rules.specs.Orders.{Entry, order_of, order_of_all}
use Rattle.sx_rewrite.specs.Accepted.{Accepted}
use Rattle.sx_rewrite.specs.LoweredSizes.{HasFitKids, HaveFitKids}

-- the entries of the derivation stand in the list from the number on
abbrev pub StandsInList : List Entry → ℕ → Proof → Type 0
StandsInList list i p = (rest : List Entry) × (drop i list ≡ order_of p ++ rest)

-- so do those of the derivations, one after another
abbrev pub StandEach : List Entry → ℕ → Proofs → Type 0
StandEach list i ps = (rest : List Entry) × (drop i list ≡ order_of_all ps ++ rest)

-- the derivation has the kids that the rules ask for, and stands in the list from the number on
pub record IsDerivationListed (a : Accepted) (list : List Entry) (i : ℕ) (p : Proof) : Type 0 where
  pub fit : HasFitKids a p
  pub stands : StandsInList list i p

-- so it is of the derivations, one after another
pub record AreListed (a : Accepted) (list : List Entry) (i : ℕ) (ps : Proofs) : Type 0 where
  pub fit : HaveFitKids a ps
  pub stand : StandEach list i ps

-- and of each by its own number
abbrev pub ListedEach : Accepted → List Entry → List ℕ → Proofs → Type 0
ListedEach a list [] no_more = Unit {0}
ListedEach a list (i ∷ is) (p ⊳ ps) = IsDerivationListed a list i p × ListedEach a list is ps
ListedEach a list _ _ = ⊥

-- from the first number on, where a derivation stands, the number of the entry after it
pub record AreEndsFrom (a : Accepted) (list : List Entry) (first : ℕ) (ends : List ℕ) : Type 0 where
  pub many : length ends ≡ length list
  pub each : (i : ℕ) (p : Proof) → first ≤ i → IsDerivationListed a list i p →
      get_or ends i 0 ≡ i + nodes_of p

-- so it is of all numbers
abbrev pub AreEnds : Accepted → List Entry → List ℕ → Type 0
AreEnds a list ends = AreEndsFrom a list 0 ends
