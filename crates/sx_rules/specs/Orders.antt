-- The order of derivations.
use Rattle.std.specs.Prelude.{◌≡◌, ℕ, ◌<◌, List, [], ◌∷◌, ◌++◌, ◌⊎◌}
use Rattle.sx_rules.specs.Derivations.{Proof, Proofs, by, given, no_more, ◌⊳◌}

-- what stands at a node of a derivation: a given, or a rule
pub data Entry : Type 0 where
  of_given : ℕ → Entry
  of_rule : ℕ → Entry

-- the entries of a proof in preorder
abbrev mutual
  pub order_of : Proof → List Entry
  order_of (by r binds kids) = of_rule r ∷ order_of_all kids
  order_of (given i) = of_given i ∷ []

  pub order_of_all : Proofs → List Entry
  order_of_all no_more = []
  order_of_all (p ⊳ ps) = order_of p ++ order_of_all ps

-- givens come before rules, and each by number
abbrev pub EntryBefore : Entry → Entry → Type 0
EntryBefore (of_given i) (of_given j) = i < j
EntryBefore (of_given i) (of_rule r) = Unit {0}
EntryBefore (of_rule r) (of_given i) = ⊥
EntryBefore (of_rule r) (of_rule q) = r < q

-- the lexicographic order
abbrev pub IsBefore : List Entry → List Entry → Type 0
IsBefore [] [] = ⊥
IsBefore [] (b ∷ bs) = Unit {0}
IsBefore (a ∷ xs) [] = ⊥
IsBefore (a ∷ xs) (b ∷ bs) = EntryBefore a b ⊎ (a ≡ b) × IsBefore xs bs

-- not after, in the lexicographic order
abbrev pub IsAtMost : List Entry → List Entry → Type 0
IsAtMost [] bs = Unit {0}
IsAtMost (a ∷ xs) [] = ⊥
IsAtMost (a ∷ xs) (b ∷ bs) = EntryBefore a b ⊎ (a ≡ b) × IsAtMost xs bs
