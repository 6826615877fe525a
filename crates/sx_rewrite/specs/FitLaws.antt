-- Laws of which derivations can be rewritten.
use Rattle.std.specs.Prelude.{◌≤◌, List}
use Rattle.sx_term.specs.declared.sort.Sort.{Sort}
use Rattle.sx_term.specs.Sorts.{Shape}
use Rattle.sx_rules.specs.Rules.{Judgement, Hypotheses}
use Rattle.sx_rules.specs.Modes.{Goal, goal_of}
use Rattle.sx_rules.specs.Sorts.{GoalIsSorted, JudgementsAreSorted}
use Rattle.sx_rules.specs.Derivations.{Proof, Derives, HasShallowBinds, height_of}
use Rattle.sx_rules.specs.First.{Answer, DerivesGoal}
use Rattle.sx_rewrite.specs.Accepted.{Accepted, Signature, IsAccepted, extended_rules}
use Rattle.sx_rewrite.specs.Lowering.{BindsFit}
use Rattle.sx_rewrite.specs.Rewrites.{CanRewrite}
use Rattle.sx_rules.specs.Limits.{most_levels}

-- the terms of a derivation of a well sorted goal have as many parts as the table asks for
abbrev pub DerivationsHaveFitTerms : Type 0
DerivationsHaveFitTerms =
    (sig : Signature) (base shapes : List Shape) (a : Accepted) → IsAccepted sig base shapes a →
    (hyps : Hypotheses) (vars : List Sort) →
    JudgementsAreSorted shapes sig.forms vars hyps.judgements →
    (p : Proof) (j : Judgement) → Derives (extended_rules a) hyps j p →
    GoalIsSorted shapes sig.forms sig.modes vars (goal_of sig.modes j) → BindsFit a.table p

-- such a derivation can be rewritten, if it is no deeper than 3,000 and its terms than 1,000
abbrev pub FoundCanBeRewritten : Type 0
FoundCanBeRewritten =
    (sig : Signature) (base shapes : List Shape) (a : Accepted) → IsAccepted sig base shapes a →
    (hyps : Hypotheses) (vars : List Sort) →
    JudgementsAreSorted shapes sig.forms vars hyps.judgements →
    (goal : Goal) → GoalIsSorted shapes sig.forms sig.modes vars goal →
    (answer : Answer) → DerivesGoal sig.modes (extended_rules a) hyps goal answer →
    height_of answer.0 ≤ most_levels → HasShallowBinds answer.0 → CanRewrite a hyps answer.0
