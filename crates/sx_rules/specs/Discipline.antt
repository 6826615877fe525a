-- The subject discipline of rules.
use Rattle.std.specs.Prelude.{◌≡◌, ℕ, ◌+◌, Bool, true, false, List, [], ◌∷◌, ◌⊎◌, Some, slice_get}
use Rattle.std.specs.Prelude.{nat_eq}
use Rattle.sx_term.specs.Tree.{Tree, Trees, node, lexeme, hole, none, ◌▹◌}
use Rattle.sx_rules.specs.Instances.{StandsAmong}
use Rattle.sx_term.specs.declared.sort.Sort.TheVariants.{Typed}
use Rattle.sx_rules.specs.Rules.{Judgement, Rule, judgements_of}
use Rattle.sx_rules.specs.Modes.{Modes, inputs, outputs, outputs_of}
use Rattle.sx_rules.specs.Sorts.{FormSorts}
pub use Rattle.sx_term.specs.Untyped.{AreUntypedSorts, PlainHaveNoTyped}

-- the terms at the subject places
abbrev pub subjects_of : Modes → Judgement → List Tree
subjects_of subjects j = outputs_of subjects j

-- the variable is the subject of one of the judgements
abbrev pub IsSubjectIn : Modes → ℕ → List Judgement → Type 0
IsSubjectIn subjects v [] = ⊥
IsSubjectIn subjects v (j ∷ js) = (subjects_of subjects j ≡ hole v ∷ []) ⊎ IsSubjectIn subjects v js

-- how often the variable stands in the term
abbrev pub one_when : Bool → ℕ
one_when true = 1
one_when false = 0

abbrev mutual
  pub times_in : ℕ → Tree → ℕ
  times_in v (node label kids) = times_in_kids v kids
  times_in v (lexeme kind text) = 0
  times_in v (hole w) = one_when (nat_eq v w)

  pub times_in_kids : ℕ → Trees → ℕ
  times_in_kids v none = 0
  times_in_kids v (t ▹ ts) = times_in v t + times_in_kids v ts

-- how often the variable stands among the terms
abbrev pub times_among : ℕ → List Tree → ℕ
times_among v [] = 0
times_among v (t ∷ ts) = times_in v t + times_among v ts

-- the subject of a premise is a bare variable that stands once in the conclusion's subject and is
-- the subject of no judgement before
abbrev pub IsBareSubject : Modes → Judgement → List Judgement → Judgement → Type 0
IsBareSubject subjects conclusion before j =
    (subjects_of subjects j ≡ [])
    ⊎ (v : ℕ) × (subjects_of subjects j ≡ hole v ∷ []) ×
    (times_among v (subjects_of subjects conclusion) ≡ 1) × (IsSubjectIn subjects v before → ⊥)

-- so it is for each of the judgements, after those that are before it
abbrev pub AreBareSubjects : Modes → Judgement → List Judgement → List Judgement → Type 0
AreBareSubjects subjects conclusion before [] = Unit {0}
AreBareSubjects subjects conclusion before (j ∷ js) =
    IsBareSubject subjects conclusion before j × AreBareSubjects subjects conclusion (j ∷ before) js

-- The subject discipline: each premise's subject is a bare variable, which stands once in the
-- conclusion's subject and is the subject of no premise before; and each variable of a typed sort
-- in the conclusion's subject is the subject of a premise.
pub record IsDisciplined (subjects : Modes) (rule : Rule) : Type 0 where
  pub bare : AreBareSubjects subjects rule.conclusion [] (judgements_of rule.premises)
  pub every : (v k : ℕ) → slice_get rule.sorts v ≡ Some (Typed k) →
      StandsAmong v (subjects_of subjects rule.conclusion) →
      IsSubjectIn subjects v (judgements_of rule.premises)

-- of a form's places only the subject has a typed sort, and it is no output
pub record FormsFit (modes subjects : Modes) (forms : FormSorts) : Type 0 where
  pub others : (form : ℕ) → AreUntypedSorts (inputs (subjects form) (forms form))
  pub outputs_plain : (form : ℕ) → AreUntypedSorts (outputs (modes form) (forms form))

-- each premise's subject has a typed sort
abbrev pub SubjectsAreTyped : Modes → Rule → Type 0
SubjectsAreTyped subjects rule =
    (v : ℕ) → IsSubjectIn subjects v (judgements_of rule.premises) →
    (k : ℕ) × (slice_get rule.sorts v ≡ Some (Typed k))
