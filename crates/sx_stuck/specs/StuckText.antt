-- Texts of stuck goals.
use Rattle.std.specs.Prelude.{ℕ, ◌+◌, List, [], Option, Some, None, length, unwrap_or}
use Rattle.sx_term.specs.Tree.{Tree}
use Rattle.sx_grammar.specs.Grammar.{Text}
use Rattle.sx_grammar.specs.Parts.{Parts, numbered}
use Rattle.sx_rules.specs.Deep.{AreShallow}
use Rattle.sx_rules.specs.Modes.{Goal}
use Rattle.sx_rules.specs.Sets.{forms_in, rules_in}
use Rattle.sx_rules.specs.Views.{FormData, NamedRule, rule_name}
use Rattle.sx_derive.specs.Stuck.{Blame, Reason, no_rule, unequal, mismatch}
use Rattle.sx_notation.specs.Forms.{HasForms, GoalFits}
use Rattle.sx_notation.specs.GoalText.{goal_text}
use Rattle.sx_words.specs.declared.goal_defect.GoalDefect.{GoalDefect}
use Rattle.sx_words.specs.declared.goal_defect.GoalDefect.TheVariants as stuck
use Rattle.sx_stuck.specs.declared.telling.Telling.{Telling as TellingOf}

-- what a stuck goal is told by: a grammar by which rules are read, the forms, the names of the
-- goal's variables, and the rules that are told by their numbers
pub record Telling : Type 0 where
  pub parts : Parts
  pub forms : List FormData
  pub names : List Text
  pub rules : List NamedRule

-- the view of it
abbrev pub telling_of : TellingOf → Telling
telling_of t = record {
  parts = t.grammar.now.parts;
  forms = forms_in t.language.now.rules;
  names = t.vars.now;
  rules = rules_in t.rules.now;
}

-- the text of a goal, with the outputs that were got, where some were
abbrev pub shown_goal : Telling → Goal → Option (List Tree) → List ℕ
shown_goal t goal got = goal_text t.parts t.names t.forms goal got

-- why a goal is stuck, as it is told; premises are counted from 1, and outputs got are shown
abbrev pub stuck_text : Telling → Goal → Reason → GoalDefect
stuck_text t goal no_rule = stuck.NoRule (shown_goal t goal None)
stuck_text t goal (unequal rule premise) =
    stuck.Equal (shown_goal t goal None) (premise + 1) (rule_name t.rules rule)
stuck_text t goal (mismatch (Some by) got) =
    stuck.Mismatch (shown_goal t goal (Some got)) (by.1 + 1) (rule_name t.rules by.0)
stuck_text t goal (mismatch None got) = stuck.NotStated (shown_goal t goal (Some got))

-- the outputs that are shown with the goal
abbrev pub shown_got : Reason → Option (List Tree)
shown_got no_rule = None
shown_got (unequal rule premise) = None
shown_got (mismatch by got) = Some got

-- the goal can be printed by the grammar, with the outputs that were got, where some were
pub record CanShow (t : Telling) (goal : Goal) (got : Option (List Tree)) : Type 0 where
  pub follow : HasForms t.parts t.forms
  pub fits : GoalFits (numbered t.parts) (length t.names) t.forms goal got
  pub inputs : AreShallow goal.terms
  pub outputs : AreShallow (unwrap_or got [])

-- so it is of a stuck goal
abbrev pub CanTell : Telling → Blame → Type 0
CanTell t blame = CanShow t blame.goal (shown_got blame.reason)
