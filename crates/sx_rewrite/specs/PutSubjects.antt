-- What is put for the variables that are subjects of premises: the subjects of lowered kids.
use Rattle.std.specs.Prelude.{◌≡◌, ℕ, ◌<◌, Bool, true, List, [], ◌∷◌, length, Some, slice_get}
use Rattle.sx_term.specs.Tree.{Tree, hole}
use Rattle.sx_term.specs.Instances.{bound_by}
use Rattle.sx_rules.specs.Rules.{Judgement, Rule, Hypotheses, judgements_of}
use Rattle.sx_rules.specs.Modes.{Modes}
use Rattle.sx_rules.specs.Discipline.{subjects_of, IsSubjectIn, AreBareSubjects}
use Rattle.sx_rules.specs.Derivations.{Proof, Proofs, proof_at, Derives, AreShallow}
use Rattle.sx_rules.specs.Derivations.{HasShallowBinds}

-- the proof derives a judgement by the rules, and no term of the two is deeper than 1,000
pub record IsProofReady (rules : List Rule) (hyps : Hypotheses) (q : Proof) : Type 0 where
  pub binds : HasShallowBinds q
  pub judgement : Judgement
  pub derives : Derives rules hyps judgement q
  pub places : AreShallow judgement.places

-- the subject of what the kid derives is put for the variable that is the subject of the premise,
-- and the other variables are as before
pub record IsSubjectPut (subjects : Modes) (rules : List Rule) (hyps : Hypotheses)
    (premise : Judgement) (kid : Proof) (old more : List Tree) : Type 0 where
  pub many : length more ≡ length old
  pub others : (w : ℕ) → ((rest : List Tree) → subjects_of subjects premise ≡ hole w ∷ rest → ⊥) →
      bound_by more w ≡ bound_by old w
  pub here : (w : ℕ) (rest : List Tree) →
      subjects_of subjects premise ≡ hole w ∷ rest → w < length old →
      (k : Judgement) → Derives rules hyps k kid → (t : Tree) (us : List Tree) →
      subjects_of subjects k ≡ t ∷ us → bound_by more w ≡ t

-- so it is for each premise, of those below a number, whose kid is needed
pub record ArePutBelow (subjects : Modes) (rules : List Rule) (hyps : Hypotheses) (need : ℕ → Bool)
    (js : List Judgement) (kids : Proofs) (n : ℕ) (old more : List Tree) : Type 0 where
  pub many : length more ≡ length old
  pub others : (w : ℕ) → (IsSubjectIn subjects w js → ⊥) → bound_by more w ≡ bound_by old w
  pub here : (i : ℕ) (j : Judgement) (w : ℕ) → i < n → slice_get js i ≡ Some j →
      subjects_of subjects j ≡ hole w ∷ [] → w < length old → need i ≡ true →
      (kid : Proof) → proof_at kids i ≡ Some kid → (k : Judgement) → Derives rules hyps k kid →
      (t : Tree) (us : List Tree) → subjects_of subjects k ≡ t ∷ us → bound_by more w ≡ t

-- the kids that are needed are ready
abbrev pub AreReady : List Rule → Hypotheses → (ℕ → Bool) → Proofs → Type 0
AreReady rules hyps need kids =
    (i : ℕ) (q : Proof) → need i ≡ true → proof_at kids i ≡ Some q → IsProofReady rules hyps q

-- the rule with the number has so many variables and so many judgements among its premises,
-- and their subjects are bare variables
pub record IsNodeOf (rules : List Rule) (subjects : Modes) (r variables kids : ℕ) : Type 0 where
  pub rule : Rule
  pub at : slice_get rules r ≡ Some rule
  pub binds_many : variables ≡ length rule.sorts
  pub kids_many : kids ≡ length (judgements_of rule.premises)
  pub bare : AreBareSubjects subjects rule.conclusion [] (judgements_of rule.premises)
