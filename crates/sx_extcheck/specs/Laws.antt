-- Laws of checking rules.
use Rattle.std.specs.Prelude.{ℕ, List, map, Ok}
use Rattle.sx_term.specs.Sorts.{Shape}
use Rattle.sx_rules.specs.Modes.{AllModed}
use Rattle.sx_rules.specs.Sets.{shapes_in}
use Rattle.sx_plain.specs.Views.{table_of}
use Rattle.sx_derive.specs.declared.blame.Blame.{Blame}
use Rattle.sx_rewrite.specs.declared.accepted.Accepted.{Accepted as AcceptedOf}
use Rattle.sx_rewrite.specs.declared.extension_data.ExtensionData.{ExtensionData}
use Rattle.sx_rewrite.specs.Accepted.{ExtRule, Checked, extended_rules, IsAccepted}
use Rattle.sx_rewrite.specs.AcceptedView.{accepted, signature}
use Rattle.sx_rewrite.specs.Accepting.{IsStored}
use Rattle.sx_rewrite.specs.Extensions.{FitsRules}
use Rattle.sx_rewrite.specs.ExtensionView.{ext_rule}
use Rattle.sx_rewrite.specs.PlainRules.{plain_of}
use Rattle.sx_rewrite.specs.Sound.{IsSoundBy}
use Rattle.sx_extcheck.specs.declared.budgets.Budgets.{Budgets}
use Rattle.sx_extcheck.specs.declared.rule_refusal.RuleRefusal.TheVariants.{Rejected}
use Rattle.sx_extcheck.specs.Accepts.{check_for, IsAcceptOutcome, AddsSound}
use Rattle.sx_extcheck.specs.Checks.{Check, IsStoredFor, IsRefusedFor}

-- what is stored of a rule is the first derivation by the base rules with the plain image of its
-- body, or what the first derivation by base and plain rules is lowered to
abbrev pub CheckedRulesAreStored : Type 0
CheckedRulesAreStored =
    (c : Check) (ext : ExtRule) →
    AllModed c.sig.modes c.set.base → AllModed c.sig.modes (extended_rules (plain_of c.set)) →
    (s : Checked) → IsStoredFor c ext s → IsStored c.sig c.labels c.set ext s

-- a rule that is rejected is sound by nothing
abbrev pub RejectedRulesAreUnsound : Type 0
RejectedRulesAreUnsound =
    (c : Check) (ext : ExtRule) →
    AllModed c.sig.modes c.set.base → AllModed c.sig.modes (extended_rules (plain_of c.set)) →
    (b : Blame) → IsRefusedFor c ext (Rejected b) →
    (s : Checked) → IsSoundBy c.sig.subjects c.labels c.set ext s → ⊥

-- where an extension that fits is added, each of its rules is sound after the set
abbrev pub AddedRulesAreSound : Type 0
AddedRulesAreSound =
    (old : AcceptedOf) (all : List Shape) (ext : ExtensionData) (budgets : Budgets) →
    IsAccepted (signature old) (shapes_in old.base) (shapes_in old.rules) (accepted old) →
    FitsRules (signature old) (shapes_in old.base) (shapes_in old.rules) all
    (table_of old.plain) (table_of ext.plain) (map ext_rule ext.rules.items) →
    (count : ℕ) (new : AcceptedOf) →
    IsAcceptOutcome old all ext (check_for old ext budgets) count (Ok new) → AddsSound old ext new
