-- Well sorted judgements, goals, rules and derivations.
use Rattle.std.specs.Prelude.{◌≡◌, ℕ, List, [], ◌∷◌, Some, slice_get}
use Rattle.sx_term.specs.declared.lex_kind.LexKind.{LexKind}
use Rattle.sx_term.specs.declared.sort.Sort.{Sort}
use Rattle.sx_term.specs.declared.sort.Sort.TheVariants.{Lex}
use Rattle.sx_rules.specs.Rules.{Judgement, Premise, holds, apart, Rule}
use Rattle.sx_term.specs.Sorts.{Shape, HasSort, HaveSorts}
use Rattle.sx_rules.specs.Modes.{Modes, inputs, Goal}
use Rattle.sx_rules.specs.Derivations.{Proof, Proofs, by, given, no_more, ◌⊳◌}
pub use Rattle.sx_term.specs.Untyped.{IsUntypedSort}

-- for each form's number, the sorts of its places
abbrev pub FormSorts : Type 0
FormSorts = ℕ → List Sort

-- the terms of the judgement have the sorts of its form's places
abbrev pub JudgementIsSorted : List Shape → FormSorts → List Sort → Judgement → Type 0
JudgementIsSorted shapes forms vars j = HaveSorts shapes vars j.places (forms j.form)

-- the terms of the goal have the sorts of its form's inputs
abbrev pub GoalIsSorted : List Shape → FormSorts → Modes → List Sort → Goal → Type 0
GoalIsSorted shapes forms modes vars goal = HaveSorts shapes vars goal.terms
    (inputs (modes goal.form) (forms goal.form))

-- each judgement among the premises is well sorted, and the sides of the others are of one lexical
-- sort
abbrev pub PremisesAreSorted : List Shape → FormSorts → List Sort → List Premise → Type 0
PremisesAreSorted shapes forms vars [] = Unit {0}
PremisesAreSorted shapes forms vars (holds j ∷ ps) =
    JudgementIsSorted shapes forms vars j × PremisesAreSorted shapes forms vars ps
PremisesAreSorted shapes forms vars (apart t u ∷ ps) =
    ((kind : LexKind) × HasSort shapes vars t (Lex kind) × HasSort shapes vars u (Lex kind)) ×
    PremisesAreSorted shapes forms vars ps

-- the conclusion and the premises are well sorted under the sorts of the rule's variables
abbrev pub RuleIsSorted : List Shape → FormSorts → Rule → Type 0
RuleIsSorted shapes forms rule =
    JudgementIsSorted shapes forms rule.sorts rule.conclusion ×
    PremisesAreSorted shapes forms rule.sorts rule.premises

-- each of the rules is well sorted
abbrev pub RulesAreSorted : List Shape → FormSorts → List Rule → Type 0
RulesAreSorted shapes forms [] = Unit {0}
RulesAreSorted shapes forms (r ∷ rs) = RuleIsSorted shapes forms r × RulesAreSorted shapes forms rs

-- each of the judgements is well sorted
abbrev pub JudgementsAreSorted : List Shape → FormSorts → List Sort → List Judgement → Type 0
JudgementsAreSorted shapes forms vars [] = Unit {0}
JudgementsAreSorted shapes forms vars (j ∷ js) =
    JudgementIsSorted shapes forms vars j × JudgementsAreSorted shapes forms vars js

-- each node's bindings have the sorts of its rule's variables
abbrev mutual
  pub ProofIsSorted : List Shape → List Rule → List Sort → Proof → Type 0
  ProofIsSorted shapes rules vars (given i) = Unit {0}
  ProofIsSorted shapes rules vars (by r binds kids) =
      (rule : Rule) × (slice_get rules r ≡ Some rule) × HaveSorts shapes vars binds rule.sorts ×
      ProofsAreSorted shapes rules vars kids

  pub ProofsAreSorted : List Shape → List Rule → List Sort → Proofs → Type 0
  ProofsAreSorted shapes rules vars no_more = Unit {0}
  ProofsAreSorted shapes rules vars (p ⊳ ps) =
      ProofIsSorted shapes rules vars p × ProofsAreSorted shapes rules vars ps
