-- What holds of each problem that a core file states, and of each answer to it.
use Rattle.std.specs.Prelude.{◌≤◌}
use Rattle.sx_rules.specs.Views.{modes_of}
use Rattle.sx_rules.specs.Modes.{AllModed}
use Rattle.sx_rules.specs.RuleNames.{AreNames, AreNamesDistinct}
use Rattle.sx_rules.specs.Writable.{HaveTexts, RulesHaveTexts}
use Rattle.sx_rules.specs.Derivations.{AreShallow, height_of}
use Rattle.sx_rules.specs.First.{Answer, DerivesGoal}
use Rattle.sx_core.specs.Problem.{Problem}
use Rattle.sx_derive.specs.Blames.{blame_of}
use Rattle.sx_derive.specs.BlameTerms.{got_in}
use Rattle.sx_derive.specs.Listing.{Lists}
use Rattle.sx_derive.specs.declared.derive_error.DeriveError.{DeriveError}
use Rattle.sx_derive.specs.declared.derive_error.DeriveError.TheVariants.{Memory, Underivable}
use Rattle.sx_derive.specs.declared.derive_error.DeriveError.TheVariants.{BudgetSpent, DepthSpent}
use Rattle.sx_derive.specs.declared.derive_error.DeriveError.TheVariants.{TooDeep, TooBig}
use Rattle.sx_derive.specs.declared.listed.Listed.{Listed}
use Rattle.sx_top.specs.FindFirst.{problem_rules}
use Rattle.sx_rules.specs.Rules.{no_hypotheses}
use Rattle.sx_top.specs.ReadCore.{problem_rule_names}
use Rattle.sx_top.specs.Terms.{AreTerms}
use Rattle.sx_rules.specs.Limits.{most_levels}

-- The rules are moded and have distinct names, the terms of rules and goal have core texts, and
-- those of the goal are no deeper than 1,000.
pub record IsProper (problem : Problem) : Type 0 where
  pub moded : AllModed (modes_of problem.forms) (problem_rules problem)
  pub names : AreNames (problem_rule_names problem)
  pub distinct : AreNamesDistinct (problem_rule_names problem)
  pub rules : RulesHaveTexts (problem_rules problem)
  pub texts : HaveTexts problem.goal.terms
  pub shallow : AreShallow problem.goal.terms

-- the answer derives the goal, is no higher than 3,000, and its outputs can be written
pub record IsWritableAnswer (problem : Problem) (answer : Answer) : Type 0 where
  pub derives : DerivesGoal (modes_of problem.forms) (problem_rules problem) no_hypotheses
      problem.goal answer
  pub height : height_of answer.0 ≤ most_levels
  pub outputs : AreTerms answer.1

-- the list is that of such an answer
pub record ListsGiven (problem : Problem) (listed : Listed) (answer : Answer) : Type 0 where
  pub lists : Lists listed answer
  pub given : IsWritableAnswer problem answer

-- the terms of a stuck goal can be written
abbrev pub HasTerms : DeriveError → Type 0
HasTerms Memory = Unit {0}
HasTerms (Underivable blame) = AreTerms (blame_of blame).goal.terms ×
    AreTerms (got_in (blame_of blame).reason)
HasTerms (BudgetSpent budget) = Unit {0}
HasTerms (DepthSpent depth) = Unit {0}
HasTerms (TooDeep depth) = Unit {0}
HasTerms (TooBig size) = Unit {0}
