-- Laws of derivations.
use Rattle.std.specs.Prelude.{◌≡◌, ℕ, List, [], ◌∷◌, ◌++◌, Option}
use Rattle.sx_term.specs.Tree.{Tree}
use Rattle.sx_term.specs.declared.sort.Sort.{Sort}
use Rattle.sx_term.specs.Sorts.{Shape}
use Rattle.sx_rules.specs.Rules.{Judgement, Rule, Hypotheses, judgement_instance, AreApart}
use Rattle.sx_rules.specs.Modes.{Modes, Goal, goal_of, IsModed, AllModed}
use Rattle.sx_rules.specs.Sorts.{FormSorts, JudgementIsSorted, GoalIsSorted, RuleIsSorted}
use Rattle.sx_rules.specs.Sorts.{RulesAreSorted, JudgementsAreSorted, ProofIsSorted}
use Rattle.sx_rules.specs.Derivations.{Proof, Proofs, Derives, DeriveEach, proof_instance}
use Rattle.sx_rules.specs.Derivations.{hypotheses_instance, graft}
use Rattle.sx_rules.specs.Orders.{Entry, order_of}
use Rattle.sx_rules.specs.First.{Answer, DerivesGoal, IsFirst}
use Rattle.sx_rules.specs.Discipline.{IsDisciplined, PlainHaveNoTyped, FormsFit}
use Rattle.sx_rules.specs.Typed.{IsTypedInSubjects, TypedAreSubjects}
use Rattle.sx_rules.specs.Writable.{HaveTexts, JudgementsHaveTexts, RulesHaveTexts}

-- a derivation from hypotheses stays one when terms are put for the variables
abbrev pub SubstitutionKeepsDerivations : Type 0
SubstitutionKeepsDerivations =
    (rules : List Rule) (hyps : Hypotheses) (j : Judgement) (p : Proof) (s : ℕ → Tree) →
    Derives rules hyps j p → Derives rules (hypotheses_instance s hyps) (judgement_instance s j)
    (proof_instance s p)

-- each of the pairs is apart
abbrev pub PairsApart : Hypotheses → List (Tree × Tree) → Type 0
PairsApart hyps [] = Unit {0}
PairsApart hyps (p ∷ ps) = AreApart hyps p.0 p.1 × PairsApart hyps ps

-- derivations of the hypotheses may stand in the place of the givens
abbrev pub GraftsAreDerivations : Type 0
GraftsAreDerivations =
    (rules : List Rule) (hyps others : Hypotheses) (kids : Proofs) →
    DeriveEach rules others hyps.judgements kids → PairsApart others hyps.pairs →
    (j : Judgement) (p : Proof) → Derives rules hyps j p → Derives rules others j (graft kids p)

-- no two derivations of a goal have the same order, and none has an order that goes on from the
-- order of another
abbrev pub OrderIsUnique : Type 0
OrderIsUnique =
    (modes : Modes) (rules : List Rule) (hyps : Hypotheses) → AllModed modes rules →
    (goal : Goal) (p q : Answer) → DerivesGoal modes rules hyps goal p →
    DerivesGoal modes rules hyps goal q →
    (more rest : List Entry) → order_of p.0 ++ more ≡ order_of q.0 ++ rest → (p ≡ q) × (more ≡ rest)

-- a goal has one first derivation at most
abbrev pub FirstDerivationIsUnique : Type 0
FirstDerivationIsUnique =
    (modes : Modes) (rules : List Rule) (hyps : Hypotheses) (goal : Goal)
    (wanted : Option (List Tree)) → AllModed modes rules →
    (a b : Answer) → IsFirst modes rules hyps goal wanted a →
    IsFirst modes rules hyps goal wanted b → a ≡ b

-- where rules, hypotheses and the goal are well sorted, each derivation of the goal has well-sorted
-- bindings and a well-sorted judgement
abbrev pub DerivationsAreSorted : Type 0
DerivationsAreSorted =
    (modes : Modes) (rules : List Rule) (hyps : Hypotheses) (shapes : List Shape)
    (forms : FormSorts) (vars : List Sort) →
    AllModed modes rules → RulesAreSorted shapes forms rules →
    JudgementsAreSorted shapes forms vars hyps.judgements →
    (j : Judgement) (p : Proof) → Derives rules hyps j p →
    GoalIsSorted shapes forms modes vars (goal_of modes j) →
    JudgementIsSorted shapes forms vars j × ProofIsSorted shapes rules vars p

-- in a well-sorted, moded and disciplined rule variables of typed sorts stand in subjects alone,
-- and each is the subject of a premise
abbrev pub DisciplineSuffices : Type 0
DisciplineSuffices =
    (modes subjects : Modes) (shapes : List Shape) (forms : FormSorts) → PlainHaveNoTyped shapes →
    FormsFit modes subjects forms →
    (rule : Rule) → RuleIsSorted shapes forms rule → IsModed modes rule →
    IsDisciplined subjects rule →
    IsTypedInSubjects subjects rule × TypedAreSubjects subjects rule

-- where the terms of rules, hypotheses and a goal have core texts, so have the outputs of each
-- derivation of the goal
abbrev pub OutputsHaveTexts : Type 0
OutputsHaveTexts =
    (modes : Modes) (rules : List Rule) (hyps : Hypotheses) → AllModed modes rules →
    RulesHaveTexts rules → JudgementsHaveTexts hyps.judgements →
    (goal : Goal) (answer : Answer) → HaveTexts goal.terms →
    DerivesGoal modes rules hyps goal answer → HaveTexts answer.1
