-- Derivations whose terms pass no limit.
use Rattle.std.specs.Prelude.{List, slice_get}
use Rattle.sx_rules.specs.Derivations.{Proof, Proofs, by, given, no_more, ◌⊳◌}
use Rattle.sx_rules.specs.Rules.{Rule}
use Rattle.sx_rewrite.specs.Measured.{node_terms}
use Rattle.sx_expand.specs.Readings.{AllSmall}

-- none of the bound terms passes a limit, nor of the places of a node's conclusion by the rules
abbrev mutual
  pub IsSmallProof : List Rule → Proof → Type 0
  IsSmallProof rules (by r binds kids) =
      AllSmall (node_terms (slice_get rules r) binds) × AreSmallProofs rules kids
  IsSmallProof rules (given i) = Unit {0}

  -- so it is of each proof
  pub AreSmallProofs : List Rule → Proofs → Type 0
  AreSmallProofs rules no_more = Unit {0}
  AreSmallProofs rules (p ⊳ ps) = IsSmallProof rules p × AreSmallProofs rules ps
