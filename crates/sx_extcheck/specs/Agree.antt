-- Answers that agree; adding an extension to an accepted set has one.
use Rattle.std.specs.Prelude.{◌≡◌, ℕ, List, Result, Ok, Err}
use Rattle.sx_term.specs.Sorts.{Shape}
use Rattle.sx_rules.specs.Sets.{shapes_in, rules_in}
use Rattle.sx_plain.specs.Views.{table_of}
use Rattle.sx_derive.specs.Blames.{blame_of}
use Rattle.sx_derive.specs.Stuck.{Blame}
use Rattle.sx_rewrite.specs.declared.accepted.Accepted.{Accepted as AcceptedOf}
use Rattle.sx_rewrite.specs.declared.extension_data.ExtensionData.{ExtensionData}
use Rattle.sx_rewrite.specs.Accepted.{IsAccepted}
use Rattle.sx_rewrite.specs.AcceptedView.{accepted, signature}
use Rattle.sx_rewrite.specs.Extensions.{ShapesGoOn}
use Rattle.sx_extcheck.specs.declared.accept_error.AcceptError.{AcceptError}
use Rattle.sx_extcheck.specs.declared.accept_error.AcceptError.TheVariants.{Memory, Rule}
use Rattle.sx_extcheck.specs.declared.budgets.Budgets.{Budgets}
use Rattle.sx_extcheck.specs.declared.refused.Refused.{Refused}
use Rattle.sx_extcheck.specs.declared.rule_refusal.RuleRefusal.{RuleRefusal}
use Rattle.sx_extcheck.specs.declared.rule_refusal.RuleRefusal.TheVariants.{
  Rejected,
  BudgetSpent,
  DepthSpent,
  TooDeep,
  TooBig,
  RewriteSpent,
  RewriteDeep,
}
use Rattle.sx_extcheck.specs.Accepts.{check_for, IsAcceptOutcome}

-- a defect, whose stuck goal, where it has one, is plain data
pub data DefectData : Type 0 where
  unsound : Blame → DefectData
  other : RuleRefusal → DefectData

-- the defect so
abbrev pub defect_as_data : RuleRefusal → DefectData
defect_as_data (Rejected b) = unsound (blame_of b)
defect_as_data (BudgetSpent n) = other (BudgetSpent n)
defect_as_data (DepthSpent n) = other (DepthSpent n)
defect_as_data (TooDeep n) = other (TooDeep n)
defect_as_data (TooBig n) = other (TooBig n)
defect_as_data (RewriteSpent n) = other (RewriteSpent n)
defect_as_data RewriteDeep = other RewriteDeep

-- Two answers, with their tries, agree: both are there and the same, or the same rule is refused
-- with the same defect, and the tries are as many. Where memory is lacking nothing is asked.
abbrev pub Agree : {X : Type 0} → (X → X → Type 0) → ℕ → ℕ →
    Result X AcceptError → Result X AcceptError → Type 0
Agree Same m n (Err Memory) answer = Unit {0}
Agree Same m n (Ok x) (Err Memory) = Unit {0}
Agree Same m n (Err (Rule name defect)) (Err Memory) = Unit {0}
Agree Same m n (Ok x) (Ok y) = (m ≡ n) × Same x y
Agree Same m n (Ok x) (Err (Rule name defect)) = ⊥
Agree Same m n (Err (Rule name defect)) (Ok y) = ⊥
Agree Same m n (Err (Rule name defect)) (Err (Rule named reason)) =
    (m ≡ n) × (name ≡ named) × (defect_as_data defect ≡ defect_as_data reason)

-- why the extension was not added, without the set
abbrev pub told_of : Result AcceptedOf Refused → Result AcceptedOf AcceptError
told_of (Ok new) = Ok new
told_of (Err refused) = Err refused.error

-- two sets have the same shapes, rules, stored rules and plain table
pub record AreSameSets (one other : AcceptedOf) : Type 0 where
  pub base : one.base ≡ other.base
  pub shapes : shapes_in one.rules ≡ shapes_in other.rules
  pub rules : rules_in one.rules ≡ rules_in other.rules
  pub accepted : accepted one ≡ accepted other

-- two outcomes for the same set, shapes, extension and budgets agree, where the set is accepted
-- and the shapes and the table of the extension go on from its own
abbrev pub OneOutcomeIsDue : Type 0
OneOutcomeIsDue =
    (old : AcceptedOf) (all : List Shape) (ext : ExtensionData) (budgets : Budgets) →
    IsAccepted (signature old) (shapes_in old.base) (shapes_in old.rules) (accepted old) →
    ShapesGoOn (shapes_in old.base) (shapes_in old.rules) all
    (table_of old.plain) (table_of ext.plain) →
    (m n : ℕ) (one other : Result AcceptedOf Refused) →
    IsAcceptOutcome old all ext (check_for old ext budgets) m one →
    IsAcceptOutcome old all ext (check_for old ext budgets) n other →
    Agree AreSameSets m n (told_of one) (told_of other)
