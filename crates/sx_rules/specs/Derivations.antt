-- Derivations: what it is to derive a judgement.
use Rattle.std.specs.Prelude.{◌≡◌, ℕ, zero, suc, ◌+◌, max, List, [], ◌∷◌, map, length, Option, Some}
use Rattle.std.specs.Prelude.{None, slice_get}
use Rattle.sx_term.specs.Tree.{Tree}
use Rattle.sx_rules.specs.Instances.{instance, bound_by}
use Rattle.sx_rules.specs.Rules.{Judgement, Rule, Hypotheses, judgement_instance, judgements_of}
use Rattle.sx_rules.specs.Rules.{AllApart}
pub use Rattle.sx_rules.specs.Deep.{AreShallow}

infixr 40 ◌⊳◌
-- a derivation: by a rule, with a term for each of its variables and a proof for each judgement
-- among its premises, or a given
mutual
  pub data Proof : Type 0 where
    by : ℕ → List Tree → Proofs → Proof
    given : ℕ → Proof

  pub data Proofs : Type 0 where
    no_more : Proofs
    ◌⊳◌ : Proof → Proofs → Proofs

-- the proof derives the judgement from the hypotheses by the rules
abbrev mutual
  pub Derives : List Rule → Hypotheses → Judgement → Proof → Type 0
  Derives rules hyps j (given i) = slice_get hyps.judgements i ≡ Some j
  Derives rules hyps j (by r binds kids) =
      (rule : Rule)
      × (slice_get rules r ≡ Some rule)
      × (length binds ≡ length rule.sorts)
      × (judgement_instance (bound_by binds) rule.conclusion ≡ j)
      × AllApart hyps (bound_by binds) rule.premises
      × DeriveEach rules hyps (map (judgement_instance (bound_by binds))
      (judgements_of rule.premises)) kids

  -- each judgement is derived by the proof at its place
  pub DeriveEach : List Rule → Hypotheses → List Judgement → Proofs → Type 0
  DeriveEach rules hyps [] no_more = Unit {0}
  DeriveEach rules hyps (j ∷ js) (p ⊳ ps) = Derives rules hyps j p × DeriveEach rules hyps js ps
  DeriveEach rules hyps _ _ = ⊥

-- how many nodes a proof has, its givens among them
abbrev mutual
  pub nodes_of : Proof → ℕ
  nodes_of (by r binds kids) = nodes_of_all kids + 1
  nodes_of (given i) = 1

  pub nodes_of_all : Proofs → ℕ
  nodes_of_all no_more = 0
  nodes_of_all (p ⊳ ps) = nodes_of p + nodes_of_all ps

-- the instance of a proof: that of each of its bindings
abbrev mutual
  pub proof_instance : (ℕ → Tree) → Proof → Proof
  proof_instance s (by r binds kids) = by r (map (instance s) binds) (proof_instances s kids)
  proof_instance s (given i) = given i

  pub proof_instances : (ℕ → Tree) → Proofs → Proofs
  proof_instances s no_more = no_more
  proof_instances s (p ⊳ ps) = proof_instance s p ⊳ proof_instances s ps

-- the proof number i
abbrev pub proof_at : Proofs → ℕ → Option Proof
proof_at no_more i = None
proof_at (p ⊳ ps) zero = Some p
proof_at (p ⊳ ps) (suc i) = proof_at ps i

-- the proof that is there, or else the given of this number
abbrev pub put_for : Option Proof → ℕ → Proof
put_for None i = given i
put_for (Some p) i = p

-- the proof with the proofs of a list in the place of its givens
abbrev mutual
  pub graft : Proofs → Proof → Proof
  graft proofs (by r binds kids) = by r binds (grafts proofs kids)
  graft proofs (given i) = put_for (proof_at proofs i) i

  pub grafts : Proofs → Proofs → Proofs
  grafts proofs no_more = no_more
  grafts proofs (p ⊳ ps) = graft proofs p ⊳ grafts proofs ps

-- the instance of a pair
abbrev pub pair_instance : (ℕ → Tree) → Tree × Tree → Tree × Tree
pair_instance s p = (instance s p.0, instance s p.1)

-- the instance of the hypotheses
abbrev pub hypotheses_instance : (ℕ → Tree) → Hypotheses → Hypotheses
hypotheses_instance s h = record {
  judgements = map (judgement_instance s) h.judgements;
  pairs = map (pair_instance s) h.pairs;
}

-- how deep a proof is; one without kids has depth 1
abbrev mutual
  pub height_of : Proof → ℕ
  height_of (by r binds kids) = most_height kids + 1
  height_of (given i) = 1

  pub most_height : Proofs → ℕ
  most_height no_more = 0
  most_height (p ⊳ ps) = max (height_of p) (most_height ps)

-- all terms bound in the proof have a depth of at most 1,000
abbrev mutual
  pub HasShallowBinds : Proof → Type 0
  HasShallowBinds (by r binds kids) = AreShallow binds × HaveShallowBinds kids
  HasShallowBinds (given i) = Unit {0}

  pub HaveShallowBinds : Proofs → Type 0
  HaveShallowBinds no_more = Unit {0}
  HaveShallowBinds (p ⊳ ps) = HasShallowBinds p × HaveShallowBinds ps

-- so it is of the terms of each judgement
abbrev pub ShallowJudgements : List Judgement → Type 0
ShallowJudgements [] = Unit {0}
ShallowJudgements (j ∷ js) = AreShallow j.places × ShallowJudgements js
