use Rattle.std.proofs.Common.{rules, ap}
use Rattle.sx_words.specs.declared.goal_defect.GoalDefect.TheVariants.{NotStated}
use Rattle.sx_stuck.proofs.goal_telling.mismatch_text.Goals as goal

pub returns-in_ok-premise-in-Some : goal.returns-in_ok-premise-in-Some
returns-in_ok-premise-in-Some c = search rules

pub returns-in-None : goal.returns-in-None
returns-in-None c = rw c.in-None.is (ap NotStated c.in_ok-goal.ensures)
