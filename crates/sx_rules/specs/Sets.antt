-- A rule set as plain data.
use Rattle.std.specs.Prelude.{ℕ, List, map}
use Rattle.sx_term.specs.Sorts.{Shape}
use Rattle.sx_term.specs.Shapes.{shapes}
use Rattle.sx_rules.specs.declared.rule_set.RuleSet.{RuleSet}
use Rattle.sx_rules.specs.Rules.{Rule}
use Rattle.sx_rules.specs.Views.{FormData, NamedRule, forms, named, rule}
use Rattle.sx_rules.specs.Good.{names_of}

-- the shapes that the set was made with
abbrev pub shapes_in : RuleSet → List Shape
shapes_in set = shapes set.shapes

-- its forms
abbrev pub forms_in : RuleSet → List FormData
forms_in set = forms set.forms.items

-- its rules, each with its name
abbrev pub rules_in : RuleSet → List NamedRule
rules_in set = map named set.rules.items

-- its rules without their names
abbrev pub bare_rules_in : RuleSet → List Rule
bare_rules_in set = map rule set.rules.items

-- the names of its rules
abbrev pub names_in : RuleSet → List (List ℕ)
names_in set = names_of set.rules.items
