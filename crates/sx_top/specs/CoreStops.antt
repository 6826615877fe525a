-- The stops of the commands on core files.
use Rattle.std.specs.Prelude.{ℕ, ◌+◌, List, ◌++◌, codes, decimal, Some, None}
use Rattle.sx_words.specs.declared.goal_defect.GoalDefect.{GoalDefect}
use Rattle.sx_words.specs.declared.goal_defect.GoalDefect.TheVariants as goal_defect
use Rattle.sx_words.specs.declared.closure_defect.ClosureDefect.TheVariants as closure_defect
use Rattle.sx_words.specs.declared.refusal.Defect.TheVariants as defect
use Rattle.sx_derive.specs.Stuck.{Blame, Reason, no_rule, unequal, mismatch}
use Rattle.sx_rules.specs.Views.{FormData, NamedRule}
use Rattle.sx_rules.specs.Modes.{Goal}
use Rattle.sx_core.specs.Problem.{Problem}
use Rattle.sx_steps.specs.declared.stop.Stop.{Stop}
use Rattle.sx_steps.specs.Refusal.{about}
use Rattle.sx_top.specs.CoreTexts.{core_rule_name}
use Rattle.sx_top.specs.GoalTexts.{core_goal_text}

-- ---- core files

-- the name of a variable in the lines about a core file
abbrev pub variable_name : ℕ → List ℕ
variable_name variable = codes "?" ++ decimal variable

-- ---- walks

-- why a goal has no derivation, by the stuck goal and the reason; premises are counted from 1, and
-- outputs got are shown
abbrev pub stuck_defect : List FormData → List NamedRule → Goal → Reason → GoalDefect
stuck_defect forms rules goal no_rule = goal_defect.NoRule (core_goal_text forms goal None)
stuck_defect forms rules goal (unequal rule premise) =
    goal_defect.Equal (core_goal_text forms goal None) (premise + 1) (core_rule_name rules rule)
stuck_defect forms rules goal (mismatch (Some by) got) =
    goal_defect.Mismatch (core_goal_text forms goal (Some got)) (by.1 + 1)
    (core_rule_name rules by.0)
stuck_defect forms rules goal (mismatch None got) =
    goal_defect.NotStated (core_goal_text forms goal (Some got))

abbrev pub stuck : List ℕ → List FormData → List NamedRule → Goal → Reason → Stop
stuck file forms rules goal reason = about file (defect.Goal (stuck_defect forms rules goal reason))

-- the goal of the problem has no derivation
abbrev pub underivable : List ℕ → Problem → Blame → Stop
underivable file problem blame = stuck file problem.forms problem.rules blame.goal blame.reason

-- ---- written files

-- the file is not the text that the goal and the replay give
abbrev pub differs : List ℕ → Stop
differs file = about file (defect.Closure closure_defect.CoreDiffers)
