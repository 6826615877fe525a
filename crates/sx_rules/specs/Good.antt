-- Good rules, and the first breach of a bad one.
use Rattle.std.specs.Prelude.{◌≡◌, ℕ, ◌<◌, ◌≤◌, List, [], ◌∷◌, ◌++◌, ◌⊎◌, Some, None, map, length}
use Rattle.std.specs.Prelude.{Result, Ok, Err}
use Rattle.sx_rules.specs.declared.rule.Rule.{Rule as RuleOf}
use Rattle.sx_rules.specs.declared.error.RuleError.{RuleError}
use Rattle.sx_rules.specs.declared.error.RuleError.TheVariants.{Memory, TooManyRules, TooManyVars}
use Rattle.sx_rules.specs.declared.error.RuleError.TheVariants.{SameRule, SortDiffers, Discipline}
use Rattle.sx_rules.specs.declared.error.RuleError.TheVariants.{NotModed}
use Rattle.sx_rules.specs.Modes.{IsModed}
use Rattle.sx_term.specs.Sorts.{Shape}
use Rattle.sx_rules.specs.Discipline.{IsDisciplined}
use Rattle.sx_rules.specs.Views.{FormData, NamedRule, modes_of, subjects_in}
use Rattle.sx_rules.specs.Fits.{RuleFits}
use Rattle.sx_rules.specs.Subjects.{broken_part}
use Rattle.sx_rules.specs.Unmoded.{unbound}
use Rattle.sx_rules.specs.Limits.{most_rules}
use Rattle.sx_term.specs.Limits.{most_variables}

-- the name stands among the names
abbrev pub IsAmong : List ℕ → List (List ℕ) → Type 0
IsAmong name [] = ⊥
IsAmong name (n ∷ names) = (n ≡ name) ⊎ IsAmong name names

-- the rule has at most 64 variables, a new name, and is well sorted, disciplined and moded
pub record IsGood (shapes : List Shape) (forms : List FormData) (names : List (List ℕ))
    (r : NamedRule) : Type 0 where
  pub few : length r.rule.sorts ≤ most_variables
  pub fresh : IsAmong r.name names → ⊥
  pub fits : RuleFits shapes forms r.rule
  pub disciplined : IsDisciplined (subjects_in forms) r.rule
  pub moded : IsModed (modes_of forms) r.rule

-- the first breach of the rule
abbrev pub IsBreach : List Shape → List FormData → List (List ℕ) → NamedRule → RuleError → Type 0
IsBreach shapes forms names r Memory = ⊥
IsBreach shapes forms names r TooManyRules = ⊥
IsBreach shapes forms names r (TooManyVars name) =
    (name ≡ r.name) × (most_variables < length r.rule.sorts)
IsBreach shapes forms names r (SameRule name) =
    (name ≡ r.name) × (length r.rule.sorts ≤ most_variables) × IsAmong r.name names
IsBreach shapes forms names r (SortDiffers name) =
    (name ≡ r.name) × (length r.rule.sorts ≤ most_variables) × (IsAmong r.name names → ⊥) ×
    (RuleFits shapes forms r.rule → ⊥)
IsBreach shapes forms names r (Discipline name part premise) =
    (name ≡ r.name) × (length r.rule.sorts ≤ most_variables) × (IsAmong r.name names → ⊥) ×
    RuleFits shapes forms r.rule
    × (broken_part forms r.rule ≡ Some (part, premise))
IsBreach shapes forms names r (NotModed name variable) =
    (name ≡ r.name) × (length r.rule.sorts ≤ most_variables) × (IsAmong r.name names → ⊥) ×
    RuleFits shapes forms r.rule
    × (broken_part forms r.rule ≡ None) × (unbound forms r.rule ≡ Some variable)

-- each rule is good after the names and the rules before it
abbrev pub AllGood : List Shape → List FormData → List (List ℕ) → List NamedRule → Type 0
AllGood shapes forms names [] = Unit {0}
AllGood shapes forms names (r ∷ rs) = IsGood shapes forms names r ×
    AllGood shapes forms (names ++ r.name ∷ []) rs

-- the breach of the first rule that is not good
abbrev pub IsFirstBreach : List Shape → List FormData → List (List ℕ) → List NamedRule → RuleError →
    Type 0
IsFirstBreach shapes forms names [] e = ⊥
IsFirstBreach shapes forms names (r ∷ rs) e =
    IsBreach shapes forms names r e ⊎ (IsGood shapes forms names r ×
    IsFirstBreach shapes forms (names ++ r.name ∷ []) rs e)

-- a rule set: at most 4,096 rules, and each is good
abbrev pub IsRuleSet : List Shape → List FormData → List NamedRule → Type 0
IsRuleSet shapes forms rules = (length rules ≤ most_rules) × AllGood shapes forms [] rules

-- why these are no rule set
abbrev pub IsRuleSetRefused : List Shape → List FormData → List NamedRule → RuleError → Type 0
IsRuleSetRefused shapes forms rules Memory = Unit {0}
IsRuleSetRefused shapes forms rules TooManyRules = most_rules < length rules
IsRuleSetRefused shapes forms rules e = (length rules ≤ most_rules) ×
    IsFirstBreach shapes forms [] rules e

-- the rule is good, or this is its first breach
abbrev pub IsChecked : List Shape → List FormData → List (List ℕ) → NamedRule →
    Result (Unit {0}) RuleError → Type 0
IsChecked shapes forms names r (Ok x) = IsGood shapes forms names r
IsChecked shapes forms names r (Err Memory) = Unit {0}
IsChecked shapes forms names r (Err e) = IsBreach shapes forms names r e

-- the names of the rules
abbrev pub names_of : List RuleOf → List (List ℕ)
names_of rs = map (λ r. r.name) rs

-- each rule is good after the names and the rules before it, or this is the first breach
abbrev pub AreChecked : List Shape → List FormData → List (List ℕ) → List NamedRule →
    Result (Unit {0}) RuleError → Type 0
AreChecked shapes forms names rules (Ok x) = AllGood shapes forms names rules
AreChecked shapes forms names rules (Err Memory) = Unit {0}
AreChecked shapes forms names rules (Err TooManyRules) = ⊥
AreChecked shapes forms names rules (Err e) = IsFirstBreach shapes forms names rules e
