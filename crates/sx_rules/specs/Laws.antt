-- Laws of good rules and their breaches.
use Rattle.std.specs.Prelude.{◌≡◌, ◌≢◌, ℕ, List, ◌↔◌, Some, None, map}
use Rattle.sx_rules.specs.declared.error.RuleError.{RuleError}
use Rattle.sx_rules.specs.declared.error.RuleError.TheVariants.{Memory}
use Rattle.sx_rules.specs.Rules.{Rule}
use Rattle.sx_rules.specs.Modes.{IsModed, AllModed}
use Rattle.sx_term.specs.Sorts.{Shape}
use Rattle.sx_rules.specs.Sorts.{RuleIsSorted}
use Rattle.sx_rules.specs.Discipline.{IsDisciplined}
use Rattle.sx_rules.specs.Views.{FormData, NamedRule, modes_of, subjects_in, sorts_of}
use Rattle.sx_rules.specs.Fits.{RuleFits}
use Rattle.sx_rules.specs.Subjects.{broken_part}
use Rattle.sx_rules.specs.Unmoded.{unbound}
use Rattle.sx_rules.specs.FirstBreach.{IsFirstBroken, IsFirstUnbound}
use Rattle.sx_rules.specs.Good.{IsGood, IsBreach, AllGood, IsRuleSet, IsRuleSetRefused}

-- no part is broken exactly where the rule is disciplined
abbrev pub NoneBrokenIsDisciplined : Type 0
NoneBrokenIsDisciplined = (forms : List FormData) (rule : Rule) →
    (broken_part forms rule ≡ None) ↔ IsDisciplined (subjects_in forms) rule

-- no variable of a well sorted rule is unbound exactly where the rule is moded
abbrev pub NoneUnboundIsModed : Type 0
NoneUnboundIsModed = (shapes : List Shape) (forms : List FormData) (rule : Rule) →
    RuleFits shapes forms rule → (unbound forms rule ≡ None) ↔ IsModed (modes_of forms) rule

-- a good rule has no breach
abbrev pub GoodHasNoBreach : Type 0
GoodHasNoBreach = (shapes : List Shape) (forms : List FormData) (names : List (List ℕ))
    (r : NamedRule) (e : RuleError) → IsGood shapes forms names r →
    IsBreach shapes forms names r e → ⊥

-- a rule without a breach is good
abbrev pub NoBreachIsGood : Type 0
NoBreachIsGood = (shapes : List Shape) (forms : List FormData) (names : List (List ℕ))
    (r : NamedRule) → ((e : RuleError) → IsBreach shapes forms names r e → ⊥) →
    IsGood shapes forms names r

-- a rule has one breach at most
abbrev pub BreachIsUnique : Type 0
BreachIsUnique = (shapes : List Shape) (forms : List FormData) (names : List (List ℕ))
    (r : NamedRule) (e g : RuleError) → IsBreach shapes forms names r e →
    IsBreach shapes forms names r g → e ≡ g

-- a rule that fits the forms is well sorted
abbrev pub FittingIsSorted : Type 0
FittingIsSorted = (shapes : List Shape) (forms : List FormData) (rule : Rule) →
    RuleFits shapes forms rule → RuleIsSorted shapes (sorts_of forms) rule

-- no rule set is refused, out of memory aside
abbrev pub RuleSetsAreNotRefused : Type 0
RuleSetsAreNotRefused = (shapes : List Shape) (forms : List FormData) (rules : List NamedRule)
    (e : RuleError) → IsRuleSet shapes forms rules → IsRuleSetRefused shapes forms rules e →
    e ≡ Memory

-- rules are refused in one way at most, out of memory aside
abbrev pub OneRefusalIsDue : Type 0
OneRefusalIsDue = (shapes : List Shape) (forms : List FormData) (rules : List NamedRule)
    (e g : RuleError) → IsRuleSetRefused shapes forms rules e →
    IsRuleSetRefused shapes forms rules g →
    e ≢ Memory → g ≢ Memory → e ≡ g

-- good rules are moded
abbrev pub GoodRulesAreModed : Type 0
GoodRulesAreModed = (shapes : List Shape) (forms : List FormData) (names : List (List ℕ))
    (rules : List NamedRule) → AllGood shapes forms names rules →
    AllModed (modes_of forms) (map (λ r. r.rule) rules)

-- the part and the premise that a rule is refused for are the first
abbrev pub BrokenPartIsFirst : Type 0
BrokenPartIsFirst = (forms : List FormData) (rule : Rule) (part premise : ℕ) →
    broken_part forms rule ≡ Some (part, premise) →
    IsFirstBroken (subjects_in forms) rule part premise

-- the variable that a rule is refused for is the first that is not bound
abbrev pub UnboundIsFirst : Type 0
UnboundIsFirst = (forms : List FormData) (rule : Rule) (v : ℕ) → unbound forms rule ≡ Some v →
    IsFirstUnbound (modes_of forms) rule v
