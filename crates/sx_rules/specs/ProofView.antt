-- Derivations as plain data.
use Rattle.std.specs.Prelude.{List, [], ◌∷◌, map}
use Rattle.std.specs.Global.{Box}
use Rattle.sx_term.specs.Term.{tree}
use Rattle.sx_rules.specs.declared.proof.Proof.{Proof as ProofOf, By', Given, Row_of-Proof-By-2-1}
use Rattle.sx_rules.specs.declared.proof.Proof.{end_of-Proof-By-2-1, more_of-Proof-By-2-1}
use Rattle.sx_rules.specs.Derivations.{Proof, Proofs, by, given, no_more, ◌⊳◌}

-- a derivation as plain data
abbrev mutual
  pub proof : ProofOf → Proof
  proof (By' rule binds shape kids) = by rule (map tree binds.items) (row_proofs kids)
  proof (Given number) = given number

  pub row_proofs : {m : _} → Row_of-Proof-By-2-1 m → Proofs
  row_proofs end_of-Proof-By-2-1 = no_more
  row_proofs (more_of-Proof-By-2-1 pointer p rest) = proof p ⊳ row_proofs rest

-- the proofs of a list, one after another
abbrev pub row_of : List Proof → Proofs
row_of [] = no_more
row_of (p ∷ ps) = p ⊳ row_of ps

-- the proofs in a list of boxes, as plain data
abbrev pub boxed : List (Box ProofOf) → Proofs
boxed ps = row_of (map (λ p. proof p.value) ps)
