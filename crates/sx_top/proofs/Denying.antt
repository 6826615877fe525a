-- What the words deny is in no list that a command writes.
use Rattle.std.proofs.Common.{ℕ, true, false, List, subst}
use Rattle.std.specs.Prelude.{Contains, Ok}
use Rattle.sx_outside.specs.Files.{Files}
use Rattle.sx_words.specs.Commands.{AuditWord, Meant, builds, compiles, checks, verifies, samples}
use Rattle.sx_audit.specs.Meaning.{Meaning}
use Rattle.sx_auditing.specs.Laws.{denying, DeniedAreKept}
use Rattle.sx_auditing.specs.Naming.{Names}
use Rattle.sx_build.specs.Denied.{DeniedAreUnbuilt as BuildDenied}
use Rattle.sx_compile.specs.Denied.{DeniedAreUncompiled as CompileDenied}
use Rattle.sx_top.specs.Denied.{WritesNone, DeniedAreUnwritten}
use Rattle.sx_top.specs.Outcome.{budgets_of, Promises}
use Rattle.sx_top.proofs.KindsOnce.{kinds_once}

module _ (built : BuildDenied) (compiled : CompileDenied) where
  writes_none : (word : List ℕ) (names : List (List ℕ)) (command : Meant)
      (named : List Meaning) → Contains named (denying word names) → (old new : Files)
      (lines : List ℕ) (p : Promises command named old new lines) →
      WritesNone names command named old new lines p
  writes_none word names (builds false name tries nodes audits) named there old new lines p =
      built name (budgets_of tries nodes) named old new lines p word names there
  writes_none word names (compiles name tries nodes audits) named there old new lines p =
      compiled name (budgets_of tries nodes) named old new lines p word names there
  writes_none word names (builds true name tries nodes audits) named there old new lines p = tt
  writes_none word names (checks name tries nodes) named there old new lines p = tt
  writes_none word names (verifies of_core name) named there old new lines p = tt
  writes_none word names (samples number) named there old new lines p = tt

  pub denied_unwritten : DeniedAreKept → DeniedAreUnwritten
  denied_unwritten kept c command word spelled d named are =
      let names = subst (λ (words : List AuditWord). Names c.auditors words (Ok named)) d.stands
      are in
      let alone = kinds_once c.words command spelled d.before word d.behind d.stands in
      let k = kept c.auditors named d.before word d.behind alone names d.one d.first d.kind in
      (k.0, k.1, writes_none word.kind k.0 command named k.2)
