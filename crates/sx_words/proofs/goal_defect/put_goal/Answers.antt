use Rattle.sx_words.proofs.goal_defect.put_goal.Goals as goal

pub returns-in-NoRule : goal.returns-in-NoRule
returns-in-NoRule c = rw c.in-NoRule.is c.put_named.ensures

pub returns-in-NotStated : goal.returns-in-NotStated
returns-in-NotStated c = rw c.in-NotStated.is c.put_named-in-NotStated.ensures
