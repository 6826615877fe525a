use Rattle.std.proofs.Common.{ap}
use Rattle.sx_words.specs.declared.goal_defect.GoalDefect.TheVariants.{NoRule, Equal}
use Rattle.sx_stuck.proofs.goal_telling.stuck_text.Goals as goal

pub returns-in_ok-goal-in-NoRule : goal.returns-in_ok-goal-in-NoRule
returns-in_ok-goal-in-NoRule c = rw c.in-NoRule.is (ap NoRule c.in_ok-goal-in-NoRule.ensures)

pub returns-in_ok-premise-in-Equal : goal.returns-in_ok-premise-in-Equal
returns-in_ok-premise-in-Equal c =
    let goal_is = c.in_ok-goal-in-Equal.ensures in
    let number_is = c.in_ok-premise-in-Equal.ensures in
    let rule_is = c.in_ok-rule-in-Equal.ensures in
    rw c.in-Equal.is (λ i. Equal (goal_is i) (number_is i) (rule_is i))
