-- Lowering: derivations by extended rules become derivations by base rules.
use Rattle.std.specs.Prelude.{◌≡◌, ℕ, List, [], ◌∷◌, map, length, Some, slice_get}
use Rattle.sx_term.specs.Tree.{Tree}
use Rattle.sx_rules.specs.Instances.{instance, bound_by}
use Rattle.sx_rules.specs.Rules.{Judgement, Rule, Hypotheses, judgement_instance, judgements_of}
use Rattle.sx_rules.specs.Modes.{Modes}
use Rattle.sx_rules.specs.Discipline.{subjects_of}
use Rattle.sx_rules.specs.Typed.{others_of, IsUntypedVariable}
use Rattle.sx_rules.specs.Derivations.{Proof, Proofs, by, given, no_more, ◌⊳◌, proof_instance}
use Rattle.sx_rules.specs.Derivations.{graft}
use Rattle.sx_plain.specs.Plain.{Table, image}
use Rattle.sx_plain.specs.Tables.{LabelsBelow}
use Rattle.sx_rewrite.specs.Accepted.{flat_conclusion, Known, basic, checked, rule_in, Accepted}
use Rattle.sx_rewrite.specs.Accepted.{known_of}

-- each premise's subject has as its instance the subject of the lowered judgement
abbrev pub SubjectsAreLowered : Modes → (ℕ → Tree) → List Judgement → List Judgement → Type 0
SubjectsAreLowered subjects s [] [] = Unit {0}
SubjectsAreLowered subjects s (j ∷ js) (k ∷ ks) =
    (map (instance s) (subjects_of subjects j) ≡ subjects_of subjects k)
    × SubjectsAreLowered subjects s js ks
SubjectsAreLowered subjects s _ _ = ⊥

-- the bindings of a lowered node: the plain image for each variable of a plain or lexical sort,
-- and the lowered subject for each that is a premise's subject
pub record AreLoweredBinds (table : Table) (subjects : Modes) (rule : Rule)
    (binds more : List Tree) (ks : List Judgement) : Type 0 where
  pub many : length more ≡ length rule.sorts
  pub images : (v : ℕ) → IsUntypedVariable rule.sorts v →
      bound_by more v ≡ image table (bound_by binds v)
  pub subjects_are : SubjectsAreLowered subjects (bound_by more) (judgements_of rule.premises) ks

-- a base rule stays; an extension rule gives way to its certificate,
-- with the lowered kids in the place of its givens
abbrev pub LowersTo : Table → Modes → Known → ℕ → List Tree → Proofs → Proof → Judgement → Type 0
LowersTo table subjects (basic rule) r more qs q k =
    (q ≡ by r more qs) × (k ≡ judgement_instance (bound_by more) rule.conclusion)
LowersTo table subjects (checked c) r more qs q k =
    (q ≡ graft qs (proof_instance (bound_by more) c.proof))
    × (k ≡ judgement_instance (bound_by more) (flat_conclusion table subjects c))

-- the derivation, by the rules of the accepted set from hypotheses,
-- is lowered to the derivation q of k
abbrev mutual
  pub Lowers : Accepted → Modes → Hypotheses → Proof → Proof → Judgement → Type 0
  Lowers a subjects hyps (given i) q k = (q ≡ given i) × (slice_get hyps.judgements i ≡ Some k)
  Lowers a subjects hyps (by r binds kids) q k =
      (known : Known) × (qs : Proofs) × (ks : List Judgement) × (more : List Tree)
      × (slice_get (known_of a) r ≡ Some known)
      × LowersEach a subjects hyps kids qs ks
      × AreLoweredBinds a.table subjects (rule_in known) binds more ks
      × LowersTo a.table subjects known r more qs q k

  -- each is lowered to the one at its place
  pub LowersEach : Accepted → Modes → Hypotheses → Proofs → Proofs → List Judgement → Type 0
  LowersEach a subjects hyps no_more no_more [] = Unit {0}
  LowersEach a subjects hyps (p ⊳ ps) (q ⊳ qs) (k ∷ ks) =
      Lowers a subjects hyps p q k × LowersEach a subjects hyps ps qs ks
  LowersEach a subjects hyps _ _ _ = ⊥

-- each place of k that is no subject is the plain image of that place of j
pub record IsImageOf (table : Table) (subjects : Modes) (k j : Judgement) : Type 0 where
  pub same_form : k.form ≡ j.form
  pub images : others_of subjects k ≡ map (image table) (others_of subjects j)

-- the labels of the terms are below the number
abbrev pub TreeLabelsBelow : ℕ → List Tree → Type 0
TreeLabelsBelow n [] = Unit {0}
TreeLabelsBelow n (t ∷ ts) = LabelsBelow n t × TreeLabelsBelow n ts

-- so are those of the judgements
abbrev pub JudgementsBelow : ℕ → List Judgement → Type 0
JudgementsBelow n [] = Unit {0}
JudgementsBelow n (j ∷ js) = TreeLabelsBelow n j.places × JudgementsBelow n js

-- and those of the pairs
abbrev pub PairsBelow : ℕ → List (Tree × Tree) → Type 0
PairsBelow n [] = Unit {0}
PairsBelow n (p ∷ ps) = (LabelsBelow n p.0 × LabelsBelow n p.1) × PairsBelow n ps

-- so they are in hypotheses
abbrev pub HypothesesBelow : ℕ → Hypotheses → Type 0
HypothesesBelow n hyps = JudgementsBelow n hyps.judgements × PairsBelow n hyps.pairs
