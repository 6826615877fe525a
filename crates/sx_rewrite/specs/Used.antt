-- Which hypotheses a derivation uses, and how big a lowered derivation is.
use Rattle.std.specs.Prelude.{◌≡◌, ℕ, suc, ◌+◌, max, List, [], ◌∷◌, ◌⊎◌, map, length, Option, Some}
use Rattle.std.specs.Prelude.{None, slice_get, slice_index_or}
use Rattle.sx_term.specs.Tree.{Tree}
use Rattle.sx_rules.specs.Instances.{instance, StandsAmong, bound_by}
use Rattle.sx_rules.specs.Rules.{Judgement, Rule, Hypotheses, judgements_of}
use Rattle.sx_rules.specs.Modes.{Modes}
use Rattle.sx_rules.specs.Discipline.{subjects_of}
use Rattle.sx_rules.specs.Typed.{IsUntypedVariable}
use Rattle.sx_rules.specs.Derivations.{Proof, Proofs, by, given, no_more, ◌⊳◌}
use Rattle.sx_plain.specs.Plain.{Table, image}
use Rattle.sx_plain.specs.Measures.{greatest, total}
use Rattle.sx_rewrite.specs.Accepted.{Known, basic, checked, Accepted, known_of}
use Rattle.sx_rewrite.specs.Lowers.{Lowers}

-- the given i stands in the proof
abbrev mutual
  pub IsUsed : ℕ → Proof → Type 0
  IsUsed i (by r binds kids) = IsUsedAmong i kids
  IsUsed i (given j) = i ≡ j

  -- or in one of the proofs
  pub IsUsedAmong : ℕ → Proofs → Type 0
  IsUsedAmong i no_more = ⊥
  IsUsedAmong i (p ⊳ ps) = IsUsed i p ⊎ IsUsedAmong i ps

-- the variable stands in a binding of the proof
abbrev mutual
  pub StandsInProof : ℕ → Proof → Type 0
  StandsInProof v (by r binds kids) = StandsAmong v binds ⊎ StandsInProofs v kids
  StandsInProof v (given j) = ⊥

  -- or in one of the proofs
  pub StandsInProofs : ℕ → Proofs → Type 0
  StandsInProofs v no_more = ⊥
  StandsInProofs v (p ⊳ ps) = StandsInProof v p ⊎ StandsInProofs v ps

-- each kid, counted from i, whose given the certificate uses is lowered
abbrev pub LowersWhereUsed : Accepted → Modes → Hypotheses → Proof → ℕ → Proofs → Proofs →
    List Judgement → Type 0
LowersWhereUsed a subjects hyps certificate i no_more no_more [] = Unit {0}
LowersWhereUsed a subjects hyps certificate i (p ⊳ ps) (q ⊳ qs) (k ∷ ks) =
    (IsUsed i certificate → Lowers a subjects hyps p q k)
    × LowersWhereUsed a subjects hyps certificate (suc i) ps qs ks
LowersWhereUsed a subjects hyps certificate i _ _ _ = ⊥

-- each premise's subject, where its given is used,
-- has as its instance the subject of the lowered judgement
abbrev pub SubjectsWhereUsed : Modes → (ℕ → Tree) → Proof → ℕ → List Judgement →
    List Judgement → Type 0
SubjectsWhereUsed subjects s certificate i [] [] = Unit {0}
SubjectsWhereUsed subjects s certificate i (j ∷ js) (k ∷ ks) =
    (IsUsed i certificate → map (instance s) (subjects_of subjects j) ≡ subjects_of subjects k)
    × SubjectsWhereUsed subjects s certificate (suc i) js ks
SubjectsWhereUsed subjects s certificate i _ _ = ⊥

-- the bindings of a lowered node, where only the kids that are used count
pub record AreUsedBinds (table : Table) (subjects : Modes) (rule : Rule) (certificate : Proof)
    (binds more : List Tree) (ks : List Judgement) : Type 0 where
  pub many : length more ≡ length rule.sorts
  pub images : (v : ℕ) → IsUntypedVariable rule.sorts v →
      bound_by more v ≡ image table (bound_by binds v)
  pub subjects_are : SubjectsWhereUsed subjects (bound_by more) certificate 0
      (judgements_of rule.premises) ks

-- how many nodes a proof has with proofs in the place of its givens, by how many each of these has
abbrev mutual
  pub grafted_nodes : List ℕ → Proof → ℕ
  grafted_nodes ns (by r binds kids) = grafted_nodes_of ns kids + 1
  grafted_nodes ns (given i) = slice_index_or ns i 1

  -- in all
  pub grafted_nodes_of : List ℕ → Proofs → ℕ
  grafted_nodes_of ns no_more = 0
  grafted_nodes_of ns (p ⊳ ps) = grafted_nodes ns p + grafted_nodes_of ns ps

-- how deep it is, by how deep each of these is
abbrev mutual
  pub grafted_height : List ℕ → Proof → ℕ
  grafted_height hs (by r binds kids) = grafted_height_of hs kids + 1
  grafted_height hs (given i) = slice_index_or hs i 1

  -- the greatest
  pub grafted_height_of : List ℕ → Proofs → ℕ
  grafted_height_of hs no_more = 0
  grafted_height_of hs (p ⊳ ps) = max (grafted_height hs p) (grafted_height_of hs ps)

-- the nodes of a lowered node, by the nodes of its lowered kids
abbrev pub nodes_at : Option Known → List ℕ → ℕ
nodes_at None ns = 0
nodes_at (Some (basic rule)) ns = total ns + 1
nodes_at (Some (checked c)) ns = grafted_nodes ns c.proof

-- how deep it is, by how deep these are
abbrev pub height_at : Option Known → List ℕ → ℕ
height_at None hs = 0
height_at (Some (basic rule)) hs = greatest hs + 1
height_at (Some (checked c)) hs = grafted_height hs c.proof

-- how many nodes the lowered derivation has
abbrev mutual
  pub lowered_nodes : Accepted → Proof → ℕ
  lowered_nodes a (by r binds kids) = nodes_at (slice_get (known_of a) r) (lowered_nodes_of a kids)
  lowered_nodes a (given i) = 1

  -- each of these
  pub lowered_nodes_of : Accepted → Proofs → List ℕ
  lowered_nodes_of a no_more = []
  lowered_nodes_of a (p ⊳ ps) = lowered_nodes a p ∷ lowered_nodes_of a ps

-- how deep it is
abbrev mutual
  pub lowered_height : Accepted → Proof → ℕ
  lowered_height a (by r binds kids) =
      height_at (slice_get (known_of a) r) (lowered_heights_of a kids)
  lowered_height a (given i) = 1

  -- each of these
  pub lowered_heights_of : Accepted → Proofs → List ℕ
  lowered_heights_of a no_more = []
  lowered_heights_of a (p ⊳ ps) = lowered_height a p ∷ lowered_heights_of a ps
