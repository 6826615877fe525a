-- The first premise that breaks the subject discipline, and the first variable that is not bound.
use Rattle.std.specs.Prelude.{◌≡◌, ℕ, ◌+◌, ◌<◌, List, [], ◌∷◌, ◌++◌, ◌⊎◌, Some, length, slice_get}
use Rattle.std.specs.List.{AllByRecursion}
use Rattle.sx_term.specs.Tree.{Tree, hole}
use Rattle.sx_term.specs.declared.sort.Sort.TheVariants.{Typed}
use Rattle.sx_rules.specs.Chosen.{holes_of, holes_among}
use Rattle.sx_rules.specs.Discipline.{subjects_of, times_among, IsSubjectIn}
use Rattle.sx_rules.specs.Instances.{StandsAmong}
use Rattle.sx_rules.specs.Modes.{Modes, inputs_of, outputs_of}
use Rattle.sx_rules.specs.Rules.{Judgement, Premise, holds, apart, Rule, judgements_of}

-- each premise has the property after those before it
abbrev pub HaveEach : (List Premise → Premise → Type 0) → (before premises : List Premise) → Type 0
HaveEach P before [] = Unit {0}
HaveEach P before (p ∷ ps) = P before p × HaveEach P (before ++ p ∷ []) ps

-- the premise of this number, counted from 1, lacks the property, and each before it has it
pub record IsFirstWithout (P : List Premise → Premise → Type 0) (premises : List Premise)
    (n : ℕ) : Type 0 where
  pub front : List Premise
  pub premise : Premise
  pub back : List Premise
  pub place : premises ≡ front ++ premise ∷ back
  pub number : n ≡ length front + 1
  pub before : HaveEach P [] front
  pub lacks : P front premise → ⊥

-- the terms at the subject places of a premise; two terms that are to be apart have none
abbrev pub premise_subjects : Modes → Premise → List Tree
premise_subjects subjects (holds j) = subjects_of subjects j
premise_subjects subjects (apart t u) = []

-- a premise has no subject, or a bare variable
abbrev pub IsBare : Modes → List Premise → Premise → Type 0
IsBare subjects before p = (premise_subjects subjects p ≡ [])
    ⊎ ((v : ℕ) × (premise_subjects subjects p ≡ hole v ∷ []))

-- a bare subject stands once in the conclusion's subject
abbrev pub StandsOnce : Modes → Judgement → List Premise → Premise → Type 0
StandsOnce subjects conclusion before p = (v : ℕ) → premise_subjects subjects p ≡ hole v ∷ [] →
    times_among v (subjects_of subjects conclusion) ≡ 1

-- a bare subject is that of no premise before
abbrev pub IsNew : Modes → List Premise → Premise → Type 0
IsNew subjects before p = (v : ℕ) → premise_subjects subjects p ≡ hole v ∷ [] →
    IsSubjectIn subjects v (judgements_of before) → ⊥

-- The first part of the discipline that the rule breaks, and the first premise that breaks it: a
-- subject that is no bare variable, one that does not stand once in the conclusion's subject, one
-- that is a subject before; or else a variable of a typed sort that is no subject.
pub data IsFirstBroken (subjects : Modes) (rule : Rule) : (part premise : ℕ) → Type 0 where
  not_bare : {n : ℕ} → IsFirstWithout (IsBare subjects) rule.premises n →
      IsFirstBroken subjects rule 1 n
  not_once : {n : ℕ} → HaveEach (IsBare subjects) [] rule.premises →
      IsFirstWithout (StandsOnce subjects rule.conclusion) rule.premises n →
      IsFirstBroken subjects rule 2 n
  not_new : {n : ℕ} → HaveEach (IsBare subjects) [] rule.premises →
      HaveEach (StandsOnce subjects rule.conclusion) [] rule.premises →
      IsFirstWithout (IsNew subjects) rule.premises n → IsFirstBroken subjects rule 3 n
  no_subject : HaveEach (IsBare subjects) [] rule.premises →
      HaveEach (StandsOnce subjects rule.conclusion) [] rule.premises →
      HaveEach (IsNew subjects) [] rule.premises →
      (v k : ℕ) → slice_get rule.sorts v ≡ Some (Typed k) →
      StandsAmong v (subjects_of subjects rule.conclusion) →
      (IsSubjectIn subjects v (judgements_of rule.premises) → ⊥) →
      IsFirstBroken subjects rule 4 0

-- the first of the variables that is not bound
pub record IsFirstFree (Bound : ℕ → Type 0) (variables : List ℕ) (v : ℕ) : Type 0 where
  pub front : List ℕ
  pub back : List ℕ
  pub place : variables ≡ front ++ v ∷ back
  pub before : AllByRecursion Bound front
  pub free : Bound v → ⊥

-- the least variable of the rule that is not bound
pub record IsLeastFree (Bound : ℕ → Type 0) (rule : Rule) (v : ℕ) : Type 0 where
  pub own : v < length rule.sorts
  pub free : Bound v → ⊥
  pub least : (w : ℕ) → w < v → Bound w

-- From left to right the first variable that is used where it is not bound: in a premise that is
-- reached, where its inputs use it, or in the conclusion's outputs. Where there is none, the least
-- variable of the rule that is not bound at the end.
abbrev pub IsFirstUnboundFrom : Modes → (ℕ → Type 0) → List Premise → Rule → ℕ → Type 0
IsFirstUnboundFrom modes Bound [] rule v =
    let uses = holes_among (outputs_of modes rule.conclusion) in
    IsFirstFree Bound uses v ⊎ (AllByRecursion Bound uses × IsLeastFree Bound rule v)
IsFirstUnboundFrom modes Bound (apart t u ∷ ps) rule v =
    let uses = holes_of t ++ holes_of u in
    IsFirstFree Bound uses v
    ⊎ (AllByRecursion Bound uses × IsFirstUnboundFrom modes Bound ps rule v)
IsFirstUnboundFrom modes Bound (holds j ∷ ps) rule v =
    let uses = holes_among (inputs_of modes j) in
    IsFirstFree Bound uses v
    ⊎ (AllByRecursion Bound uses × IsFirstUnboundFrom modes
    (λ w. Bound w ⊎ StandsAmong w (outputs_of modes j)) ps rule v)

-- the same, where the variables of the conclusion's inputs are bound at first
abbrev pub IsFirstUnbound : Modes → Rule → ℕ → Type 0
IsFirstUnbound modes rule v = IsFirstUnboundFrom modes
    (λ w. StandsAmong w (inputs_of modes rule.conclusion)) rule.premises rule v
