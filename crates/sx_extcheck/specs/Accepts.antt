-- What adding an extension to an accepted set answers, rule by rule in order.
use Rattle.std.specs.Prelude.{◌≡◌, ℕ, ◌+◌, ◌≤◌, ◌⊎◌, List, [], ◌∷◌, ◌++◌, length, map, Result}
use Rattle.std.specs.Prelude.{Ok, Err}
use Rattle.std.specs.Global.{Vec}
use Rattle.std.specs.List.{AllByRecursion}
use Rattle.sx_term.specs.Sorts.{Shape}
use Rattle.sx_rules.specs.Sets.{shapes_in}
use Rattle.sx_rules.specs.Views.{rule}
use Rattle.sx_plain.specs.Views.{table_of}
use Rattle.sx_rewrite.specs.declared.accepted.Accepted.{Accepted as AcceptedOf}
use Rattle.sx_rewrite.specs.declared.ext_rule.ExtRule.{ExtRule as ExtRuleOf}
use Rattle.sx_rewrite.specs.declared.extension_data.ExtensionData.{ExtensionData}
use Rattle.sx_rewrite.specs.declared.flat.Flat.{Flat}
use Rattle.sx_rewrite.specs.Accepted.{Checked}
use Rattle.sx_rewrite.specs.AcceptedView.{accepted, signature}
use Rattle.sx_rewrite.specs.Adds.{IsExtensionAdded, IsAsBefore}
use Rattle.sx_rewrite.specs.Extensions.{with_table}
use Rattle.sx_rewrite.specs.ExtensionView.{ext_rule}
use Rattle.sx_rewrite.specs.Shallow.{IsShallowFlat}
use Rattle.sx_rewrite.specs.Sound.{IsSoundBy, AreSoundBy}
use Rattle.sx_rewrite.specs.Stored.{checked_of}
use Rattle.sx_extcheck.specs.declared.accept_error.AcceptError.{AcceptError}
use Rattle.sx_extcheck.specs.declared.accept_error.AcceptError.TheVariants.{Memory, Rule}
use Rattle.sx_extcheck.specs.declared.budgets.Budgets.{Budgets}
use Rattle.sx_extcheck.specs.declared.check_error.CheckError.{CheckError}
use Rattle.sx_extcheck.specs.declared.check_error.CheckError.TheVariants.{
  Memory as NoMemory,
  Defect,
}
use Rattle.sx_extcheck.specs.declared.refused.Refused.{Refused}
use Rattle.sx_extcheck.specs.declared.rule_refusal.RuleRefusal.TheVariants.{Rejected}
use Rattle.sx_extcheck.specs.CheckView.{check_with}
use Rattle.sx_extcheck.specs.Checks.{Check, tries_for, IsStoredFor, IsRefusedFor}

-- what the rules of an extension of the set are checked against
abbrev pub check_for : AcceptedOf → ExtensionData → Budgets → Check
check_for set ext budgets = check_with set ext.plain budgets

-- The rules are checked in order, with so many tries in all: each is stored, or each up to the
-- first that is refused; where memory is lacking at a rule, each before it is stored, and some of
-- its tries were made.
abbrev pub AreRulesChecked : Check → List ExtRuleOf → ℕ → Result (List Checked) AcceptError → Type 0
AreRulesChecked c [] count (Ok []) = count ≡ 0
AreRulesChecked c [] count (Ok (s ∷ ss)) = ⊥
AreRulesChecked c [] count (Err Memory) = count ≡ 0
AreRulesChecked c [] count (Err (Rule name defect)) = ⊥
AreRulesChecked c (e ∷ es) count (Ok []) = ⊥
AreRulesChecked c (e ∷ es) count (Ok (s ∷ ss)) =
    IsStoredFor c (ext_rule e) s
    × (rest : ℕ) × (count ≡ tries_for c (ext_rule e) + rest) × AreRulesChecked c es rest (Ok ss)
AreRulesChecked c (e ∷ es) count (Err Memory) =
    (count ≤ tries_for c (ext_rule e))
    ⊎ ((s : Checked) × IsStoredFor c (ext_rule e) s
    × (rest : ℕ) × (count ≡ tries_for c (ext_rule e) + rest)
    × AreRulesChecked c es rest (Err Memory))
AreRulesChecked c (e ∷ es) count (Err (Rule name defect)) =
    ((name ≡ e.rule.name) × IsRefusedFor c (ext_rule e) defect × (count ≡ tries_for c (ext_rule e)))
    ⊎ ((s : Checked) × IsStoredFor c (ext_rule e) s
    × (rest : ℕ) × (count ≡ tries_for c (ext_rule e) + rest)
    × AreRulesChecked c es rest (Err (Rule name defect)))

-- each rule is checked and stored, and the set has them after its rules; or a rule is refused or
-- memory is lacking, and the set is as it was
abbrev pub IsAcceptOutcome : AcceptedOf → List Shape → ExtensionData → Check → ℕ →
    Result AcceptedOf Refused → Type 0
IsAcceptOutcome old all ext c count (Ok new) =
    (flats : List Flat)
    × AreRulesChecked c ext.rules.items count
    (Ok (checked_of (map (λ e. rule e.rule) ext.rules.items) flats))
    × IsExtensionAdded old all ext flats (Ok new)
IsAcceptOutcome old all ext c count (Err refused) =
    AreRulesChecked c ext.rules.items count (Err refused.error) × IsAsBefore old refused.set

-- with the tries that the counter rose by
abbrev pub IsCheckAnswered : AcceptedOf → List Shape → ExtensionData → Check → ℕ → ℕ →
    Result AcceptedOf Refused → Type 0
IsCheckAnswered old all ext c first last result =
    (count : ℕ) × (last ≡ first + count) × IsAcceptOutcome old all ext c count result

-- the rules of the extension, each with its body, are sound after the set with the extension's
-- table, by what the new set has stored of them
pub record AddsSound (old : AcceptedOf) (ext : ExtensionData) (new : AcceptedOf) : Type 0 where
  pub stored : List Checked
  pub stored_are : (accepted new).more ≡ (accepted old).more ++ stored
  pub sound : AreSoundBy (signature old).subjects (length (shapes_in old.base))
      (with_table (accepted old) (table_of ext.plain)) (map ext_rule ext.rules.items) stored

-- one of the rules has the name, and nothing makes it sound
abbrev pub HasUnsound : Check → List ExtRuleOf → List ℕ → Type 0
HasUnsound c [] name = ⊥
HasUnsound c (e ∷ es) name =
    ((name ≡ e.rule.name)
    × ((s : Checked) → IsSoundBy c.sig.subjects c.labels c.set (ext_rule e) s → ⊥))
    ⊎ HasUnsound c es name

-- a rule is rejected only where it is sound by nothing
abbrev pub RejectsUnsound : Check → List ExtRuleOf → AcceptError → Type 0
RejectsUnsound c es Memory = Unit {0}
RejectsUnsound c es (Rule name (Rejected b)) = HasUnsound c es name
RejectsUnsound c es (Rule name _) = Unit {0}

-- the rules were checked in order, with the tries that the counter rose by; what is stored of
-- each is within the limits of certificates
abbrev pub WereChecked : Check → List ExtRuleOf → ℕ → ℕ → Result (Vec Flat) AcceptError → Type 0
WereChecked c es first last (Ok flats) =
    (count : ℕ) × (last ≡ first + count)
    × AreRulesChecked c es count (Ok (checked_of (map (λ e. rule e.rule) es) flats.items))
    × AllByRecursion IsShallowFlat flats.items × (length flats.items ≡ length es)
WereChecked c es first last (Err error) =
    (count : ℕ) × (last ≡ first + count) × AreRulesChecked c es count (Err error)

-- the error is the defect of the rule with this name, or out of memory
abbrev pub IsAcceptRefusal : List ℕ → CheckError → AcceptError → Type 0
IsAcceptRefusal name e Memory = Unit {0}
IsAcceptRefusal name NoMemory (Rule n defect) = ⊥
IsAcceptRefusal name (Defect d) (Rule n defect) = (n ≡ name) × (defect ≡ d)
