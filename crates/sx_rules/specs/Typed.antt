-- Where the variables of typed sorts stand in a rule.
use Rattle.std.specs.Prelude.{◌≡◌, ℕ, ◌<◌, List, [], ◌∷◌, ◌⊎◌, Some, length, slice_get}
use Rattle.sx_term.specs.Tree.{Tree}
use Rattle.sx_term.specs.declared.sort.Sort.{Sort}
use Rattle.sx_rules.specs.Instances.{Stands, StandsAmong}
use Rattle.sx_rules.specs.Rules.{Judgement, Premise, holds, apart, Rule, judgements_of}
use Rattle.sx_rules.specs.Modes.{Modes, inputs_of}
use Rattle.sx_rules.specs.Sorts.{IsUntypedSort}
use Rattle.sx_rules.specs.Discipline.{IsSubjectIn}

-- the terms at the places that are no subjects
abbrev pub others_of : Modes → Judgement → List Tree
others_of subjects j = inputs_of subjects j

-- the variable has a sort, and no typed one
abbrev pub IsUntypedVariable : List Sort → ℕ → Type 0
IsUntypedVariable sorts v = (sort : Sort) × (slice_get sorts v ≡ Some sort) × IsUntypedSort sort

-- in the premises variables of typed sorts stand in subjects alone
abbrev pub TypedInSubjects : Modes → List Sort → List Premise → Type 0
TypedInSubjects subjects sorts [] = Unit {0}
TypedInSubjects subjects sorts (holds j ∷ ps) =
    ((v : ℕ) → StandsAmong v (others_of subjects j) → IsUntypedVariable sorts v) ×
    TypedInSubjects subjects sorts ps
TypedInSubjects subjects sorts (apart t u ∷ ps) =
    ((v : ℕ) → Stands v t ⊎ Stands v u → IsUntypedVariable sorts v) ×
    TypedInSubjects subjects sorts ps

-- in the rule variables of typed sorts stand in subjects alone
abbrev pub IsTypedInSubjects : Modes → Rule → Type 0
IsTypedInSubjects subjects rule =
    ((v : ℕ) → StandsAmong v (others_of subjects rule.conclusion) → IsUntypedVariable rule.sorts v)
    × TypedInSubjects subjects rule.sorts rule.premises

-- each variable of a typed sort is the subject of a premise
abbrev pub TypedAreSubjects : Modes → Rule → Type 0
TypedAreSubjects subjects rule =
    (v : ℕ) → v < length rule.sorts → IsUntypedVariable rule.sorts v ⊎
    IsSubjectIn subjects v (judgements_of rule.premises)
