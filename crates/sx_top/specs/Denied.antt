-- No list that a command writes has a rule that the words deny.
use Rattle.std.specs.Prelude.{◌≡◌, ℕ, true, false, List, ◌∷◌, ◌++◌, Some, Ok}
use Rattle.sx_outside.specs.Files.{Files}
use Rattle.sx_words.specs.Commands.{AuditWord, Meant, builds, compiles, checks, verifies, samples}
use Rattle.sx_audit.specs.Kinds.{listed_names, deny_kind}
use Rattle.sx_audit.specs.Meaning.{Meaning}
use Rattle.sx_auditing.specs.Laws.{first_named}
use Rattle.sx_build.specs.Denied.{AreWithout}
use Rattle.sx_compile.specs.Denied.{IsWithout}
use Rattle.sx_top.specs.Calls.{Call}
use Rattle.sx_words.specs.Commands.{SpellsCommand}
use Rattle.sx_top.specs.Outcome.{budgets_of, audits_of, NamesFor, Promises}

-- no list that the command writes for modules, as it promises, has a rule with one of these names
abbrev pub WritesNone : (names : List (List ℕ)) (command : Meant) (named : List Meaning)
    (old new : Files) (lines : List ℕ) → Promises command named old new lines → Type 0
WritesNone names (builds false name tries nodes audits) named old new lines p =
    AreWithout names (budgets_of tries nodes) old new p.language named p.left p.modules p.made
    p.built
WritesNone names (compiles name tries nodes audits) named old new lines p = IsWithout names p
WritesNone names (builds true name tries nodes audits) named old new lines p = Unit {0}
WritesNone names (checks name tries nodes) named old new lines p = Unit {0}
WritesNone names (verifies of_core name) named old new lines p = Unit {0}
WritesNone names (samples number) named old new lines p = Unit {0}

-- one of the words names an auditor, and the first of those that are handed in under this name has
-- the settings and the step of the kind `deny`
pub record Denies (c : Call) (command : Meant) (word : AuditWord) : Type 0 where
  pub before : List AuditWord
  pub behind : List AuditWord
  pub stands : audits_of command ≡ before ++ word ∷ behind
  pub one : Meaning
  pub first : first_named word.kind c.auditors ≡ Some one
  pub kind : one.kind ≡ deny_kind word.kind

-- what such a word lists is in no list that a command writes which keeps its promise
abbrev pub DeniedAreUnwritten : Type 0
DeniedAreUnwritten =
    (c : Call) (command : Meant) (word : AuditWord) → SpellsCommand c.words command →
    Denies c command word → (named : List Meaning) → NamesFor c.auditors command (Ok named) →
    (names : List (List ℕ)) × (listed_names word.setting ≡ Some names)
    × ((old new : Files) (lines : List ℕ) (p : Promises command named old new lines) →
    WritesNone names command named old new lines p)
