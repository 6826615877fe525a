-- Laws of auditors that are named, and then shown derivations.
use Rattle.std.specs.Prelude.{◌≡◌, ℕ, false, if◌then◌else◌, List, [], ◌∷◌, ◌++◌, Contains}
use Rattle.std.specs.Prelude.{Option, Some, None, Result, Ok}
use Rattle.std.specs.List.{AllByRecursion}
use Rattle.std.specs.Str.{bytes_eq}
use Rattle.sx_words.specs.Commands.{AuditWord, has_kind}
use Rattle.sx_rules.specs.Orders.{Entry, of_rule, of_given}
use Rattle.sx_rules.specs.Views.{NamedRule, rule_name}
use Rattle.sx_steps.specs.declared.stop.Stop.{Stop}
use Rattle.sx_audit.specs.Kinds.{is_among, listed_names, of_names, deny_kind}
use Rattle.sx_audit.specs.Meaning.{AuditState, Meaning}
use Rattle.sx_auditing.specs.Naming.{Names}
use Rattle.sx_auditing.specs.Shows.{Shows}

-- ---- one answer

-- words name the same auditors, or stop at the same word
abbrev pub NamesOnce : Type 0
NamesOnce = (handed : List Meaning) (audits : List AuditWord)
    (one other : Result (List Meaning) Stop) →
    Names handed audits one → Names handed audits other → one ≡ other

-- showing a list leads to the same auditors, or to the same objection
abbrev pub ShowsOnce : Type 0
ShowsOnce = (file : List ℕ) (rules : List NamedRule) (old : List Meaning) (list : List Entry)
    (one other : Result (List Meaning) Stop) →
    Shows file rules old list one → Shows file rules old list other → one ≡ other

-- ---- what is named

-- the first of the auditors with this name
abbrev pub first_named : List ℕ → List Meaning → Option Meaning
first_named name [] = None
first_named name (m ∷ auditors) = if bytes_eq m.kind.name name then Some m
    else first_named name auditors

-- the auditor is among those that are kept, in the state that the setting gives
pub record IsAuditorKept (kept : List Meaning) (one : Meaning) (setting : List ℕ) : Type 0 where
  pub state : AuditState
  pub takes : one.kind.takes setting ≡ Some state
  pub stands : Contains kept (record { kind = one.kind; state = state })

-- the first auditor that has the kind of a word as its name is kept, as the last word of this kind
-- sets it
abbrev pub WordsAreKept : Type 0
WordsAreKept = (handed kept : List Meaning) (before : List AuditWord) (a : AuditWord)
    (behind : List AuditWord) → has_kind behind a.kind ≡ false →
    Names handed (before ++ a ∷ behind) (Ok kept) →
    (one : Meaning) → first_named a.kind handed ≡ Some one → IsAuditorKept kept one a.setting

-- ---- what is denied

-- an auditor with the step of the kind `deny`, and these names of rules
abbrev pub denying : List ℕ → List (List ℕ) → Meaning
denying name names = record { kind = deny_kind name; state = of_names names }

-- the entry is a rule with another name
abbrev pub IsByOther : List NamedRule → List (List ℕ) → Entry → Type 0
IsByOther rules names (of_rule r) = is_among names (rule_name rules r) ≡ false
IsByOther rules names (of_given i) = ⊥

-- of a list that is shown to an auditor of that kind and is not objected to, all entries are so
abbrev pub DeniedAreUnlisted : Type 0
DeniedAreUnlisted = (file : List ℕ) (rules : List NamedRule) (old : List Meaning)
    (list : List Entry) (new : List Meaning) → Shows file rules old list (Ok new) →
    (name : List ℕ) (names : List (List ℕ)) → Contains old (denying name names) →
    AllByRecursion (IsByOther rules names) list

-- and it is there as before when the next list is shown
abbrev pub DenyingStays : Type 0
DenyingStays = (file : List ℕ) (rules : List NamedRule) (old : List Meaning)
    (list : List Entry) (new : List Meaning) → Shows file rules old list (Ok new) →
    (name : List ℕ) (names : List (List ℕ)) → Contains old (denying name names) →
    Contains new (denying name names)

-- where the first auditor that has the kind of a word as its name has the settings and the step of
-- the kind `deny`, it is kept with the rules that the last word of this kind lists
abbrev pub DeniedAreKept : Type 0
DeniedAreKept = (handed kept : List Meaning) (before : List AuditWord) (a : AuditWord)
    (behind : List AuditWord) → has_kind behind a.kind ≡ false →
    Names handed (before ++ a ∷ behind) (Ok kept) →
    (one : Meaning) → first_named a.kind handed ≡ Some one → one.kind ≡ deny_kind a.kind →
    (names : List (List ℕ)) × (listed_names a.setting ≡ Some names)
    × Contains kept (denying a.kind names)
