-- Laws of rewriting. A set with its plain rules is an accepted set too,
-- so they hold of open derivations by plain rules.
use Rattle.std.specs.Prelude.{◌≡◌, ℕ, ◌≤◌, List, Result, Ok, length}
use Rattle.sx_term.specs.declared.sort.Sort.{Sort}
use Rattle.sx_term.specs.Sorts.{Shape}
use Rattle.sx_rules.specs.Rules.{Judgement, Hypotheses}
use Rattle.sx_rules.specs.Modes.{goal_of}
use Rattle.sx_rules.specs.Sorts.{GoalIsSorted, JudgementIsSorted, JudgementsAreSorted}
use Rattle.sx_rules.specs.Sorts.{ProofIsSorted}
use Rattle.sx_rules.specs.Derivations.{Proof, Derives, nodes_of, height_of, AreShallow}
use Rattle.sx_rules.specs.Derivations.{HasShallowBinds, ShallowJudgements}
use Rattle.sx_rewrite.specs.Accepted.{Accepted, Signature, IsAccepted, extended_rules}
use Rattle.sx_rewrite.specs.Lowers.{IsImageOf, HypothesesBelow}
use Rattle.sx_rewrite.specs.Rewriting.{RewriteRefusal, Rewritten, IsRewritten}
use Rattle.sx_rules.specs.Limits.{most_levels}

-- there is an answer
abbrev pub RewritingAnswers : Type 0
RewritingAnswers =
    (sig : Signature) (base shapes : List Shape) (a : Accepted) → IsAccepted sig base shapes a →
    (hyps : Hypotheses) (p : Proof) (j : Judgement) →
    Derives (extended_rules a) hyps j p → (budget : ℕ) →
    (answer : Result Rewritten RewriteRefusal) × IsRewritten a sig.subjects hyps p budget answer

-- and one alone
abbrev pub RewritingIsUnique : Type 0
RewritingIsUnique =
    (sig : Signature) (base shapes : List Shape) (a : Accepted) → IsAccepted sig base shapes a →
    (hyps : Hypotheses) (p : Proof) (budget : ℕ) (answer other : Result Rewritten RewriteRefusal) →
    IsRewritten a sig.subjects hyps p budget answer →
    IsRewritten a sig.subjects hyps p budget other → answer ≡ other

-- The lowered derivation derives its judgement from the hypotheses by the base rules
-- alone, and the places that are no subjects are plain images. All is well sorted
-- by the base shapes, no term is deeper than 1,000, and the derivation has no
-- more nodes than the budget and is no deeper than 3,000.
pub record IsGoodRewriting (sig : Signature) (base : List Shape) (a : Accepted) (hyps : Hypotheses)
    (vars : List Sort) (budget : ℕ) (j : Judgement) (x : Rewritten) : Type 0 where
  pub derives : Derives a.base hyps x.judgement x.proof
  pub images : IsImageOf a.table sig.subjects x.judgement j
  pub judgement_sorted : JudgementIsSorted base sig.forms vars x.judgement
  pub proof_sorted : ProofIsSorted base a.base vars x.proof
  pub nodes : nodes_of x.proof ≤ budget
  pub height : height_of x.proof ≤ most_levels
  pub places : AreShallow x.judgement.places
  pub binds : HasShallowBinds x.proof

-- for the derivation of a well sorted goal from base hypotheses
abbrev pub RewritingIsGood : Type 0
RewritingIsGood =
    (sig : Signature) (base shapes : List Shape) (a : Accepted) → IsAccepted sig base shapes a →
    (hyps : Hypotheses) (vars : List Sort) →
    JudgementsAreSorted base sig.forms vars hyps.judgements → HypothesesBelow (length base) hyps →
    ShallowJudgements hyps.judgements →
    (p : Proof) (j : Judgement) → Derives (extended_rules a) hyps j p →
    GoalIsSorted shapes sig.forms sig.modes vars (goal_of sig.modes j) →
    (budget : ℕ) (x : Rewritten) → IsRewritten a sig.subjects hyps p budget (Ok x) →
    IsGoodRewriting sig base a hyps vars budget j x
