-- The rules and the modes of a rule set as plain data.
use Rattle.std.specs.Prelude.{List, map}
use Rattle.sx_rules.specs.declared.rule_set.RuleSet.{RuleSet}
use Rattle.sx_rules.specs.Rules.{Rule}
use Rattle.sx_rules.specs.Modes.{Modes}
use Rattle.sx_rules.specs.Views.{forms, modes_of as modes_by}
pub use Rattle.sx_rules.specs.Views.{judgement as judgement_of, premise as premise_of}
pub use Rattle.sx_rules.specs.Views.{rule as rule_of}

abbrev pub rules_of : RuleSet → List Rule
rules_of set = map rule_of set.rules.items

abbrev pub set_modes : RuleSet → Modes
set_modes set = modes_by (forms set.forms.items)
