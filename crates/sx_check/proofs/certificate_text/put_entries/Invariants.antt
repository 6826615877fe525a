use Rattle.std.proofs.Common.{◌≡◌, ◌++◌, take, map}
use Rattle.sx_rules.specs.EntryView.{entry}
use Rattle.sx_rules.specs.Sets.{rules_in}
use Rattle.sx_check.specs.CertificateText.{entries_text}
use Rattle.sx_check.proofs.certificate_text.put_entries.Given as goal

abbrev pub invariant-loop-entry : goal.invariant-loop-entry
invariant-loop-entry l = l.into.items ≡ l.fn.into.items ++ entries_text (rules_in l.rules) (map entry (take l.entry-index l.list))
