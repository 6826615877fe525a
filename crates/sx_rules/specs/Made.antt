-- What making a rule set answers.
use Rattle.std.specs.Prelude.{◌≡◌, List, map, Result, Ok, Err}
use Rattle.sx_rules.specs.declared.rule_set.RuleSet.{RuleSet}
use Rattle.sx_rules.specs.declared.error.RuleError.{RuleError}
use Rattle.sx_term.specs.Sorts.{Shape}
use Rattle.sx_term.specs.Shapes.{shapes}
use Rattle.sx_rules.specs.Views.{FormData, NamedRule, forms, named}
use Rattle.sx_rules.specs.Good.{IsRuleSet, IsRuleSetRefused}

-- the set has these shapes, forms and rules, and they are a rule set; or why they are none
abbrev pub IsRuleSetMade : List Shape → List FormData → List NamedRule → Result RuleSet RuleError →
    Type 0
IsRuleSetMade all known rules (Ok set) =
    (shapes set.shapes ≡ all) × (forms set.forms.items ≡ known) ×
    (map named set.rules.items ≡ rules) × IsRuleSet all known rules
IsRuleSetMade all known rules (Err e) = IsRuleSetRefused all known rules e
