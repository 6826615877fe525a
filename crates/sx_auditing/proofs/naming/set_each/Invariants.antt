use Rattle.std.proofs.Common.{drop, map}
use Rattle.sx_words.specs.View.{audit_view}
use Rattle.sx_auditing.proofs.Sets.{Continues}
use Rattle.sx_auditing.proofs.naming.set_each.Given as goal

abbrev pub invariant-loop-audit : goal.invariant-loop-audit
invariant-loop-audit g l =
    Continues (map audit_view l.audits)
    (map (λ s. record {
      auditor = (goal.Auditor-dyn g (s.auditor.vtable, s.auditor.value)).meaning s.auditor.value;
      is_set = s.is_set;
    }) l.fn.slots.items)
    (map audit_view (drop l.audit-index l.audits))
    (map (λ s. record {
      auditor = (goal.Auditor-dyn g (s.auditor.vtable, s.auditor.value)).meaning s.auditor.value;
      is_set = s.is_set;
    }) l.slots.items)
