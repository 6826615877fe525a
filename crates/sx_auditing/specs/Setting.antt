-- Which auditor a word sets, and what setting it answers.
use Rattle.std.specs.Prelude.{◌≡◌, ℕ, ◌<◌, false, true, List, length, take, Some, None}
use Rattle.std.specs.Prelude.{slice_index_or, Result, Ok, Err}
use Rattle.std.specs.List.{AllByRecursion}
use Rattle.std.specs.Str.{bytes_eq}
use Rattle.sx_words.specs.Commands.{AuditWord}
use Rattle.sx_audit.specs.declared.set_error.SetError.{SetError}
use Rattle.sx_audit.specs.declared.set_error.SetError.TheVariants.{Bad, Memory}
use Rattle.sx_auditing.specs.Naming.{Slot, set_to, set_first}

-- the auditor has another name
abbrev pub HasOtherName : List ℕ → Slot → Type 0
HasOtherName name s = bytes_eq s.auditor.kind.name name ≡ false

-- at this place stands the first auditor with the name
pub record IsAuditorPlace (name : List ℕ) (slots : List Slot) (place : ℕ) : Type 0 where
  pub within : place < length slots
  pub one : Slot
  pub others : AllByRecursion (HasOtherName name) (take place slots)
  pub is : one ≡ slice_index_or slots place one
  pub named : bytes_eq one.auditor.kind.name name ≡ true

-- the auditor is set, or does not take the setting
abbrev pub IsSetTo : List ℕ → Slot → Result (Unit {0}) SetError → Slot → Type 0
IsSetTo setting old (Ok x) new = set_to setting old ≡ Some new
IsSetTo setting old (Err Bad) new = set_to setting old ≡ None
IsSetTo setting old (Err Memory) new = Unit {0}

-- the first auditor of the word's kind is set, or there is none that is
abbrev pub IsSetFirst : AuditWord → List Slot → Result (Unit {0}) SetError → List Slot → Type 0
IsSetFirst a old (Ok x) new = set_first a old ≡ Some new
IsSetFirst a old (Err Bad) new = set_first a old ≡ None
IsSetFirst a old (Err Memory) new = Unit {0}
