-- What checking more rules after those of a set answers.
use Rattle.std.specs.Prelude.{List, Result, Ok, Err}
use Rattle.sx_term.specs.Sorts.{Shape}
use Rattle.sx_rules.specs.declared.error.RuleError.{RuleError}
use Rattle.sx_rules.specs.Views.{FormData, NamedRule}
use Rattle.sx_rules.specs.Good.{IsRuleSet, IsRuleSetRefused}

-- all these rules are a rule set, or this is why they are none
abbrev pub IsAdmitted : List Shape → List FormData → List NamedRule →
    Result (Unit {0}) RuleError → Type 0
IsAdmitted all known rules (Ok x) = IsRuleSet all known rules
IsAdmitted all known rules (Err e) = IsRuleSetRefused all known rules e
