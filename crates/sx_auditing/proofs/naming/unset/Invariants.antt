use Rattle.std.proofs.Common.{◌≡◌, map}
use Rattle.sx_auditing.specs.Naming.{unset}
use Rattle.sx_auditing.proofs.naming.unset.Given as goal

abbrev pub invariant-loop-auditor : goal.invariant-loop-auditor
invariant-loop-auditor g l =
    map (λ s. record {
      auditor = (goal.Auditor-dyn g (s.auditor.vtable, s.auditor.value)).meaning s.auditor.value;
      is_set = s.is_set;
    }) l.slots.items
    ≡ map unset (map (λ b. (goal.Auditor-dyn g (b.vtable, b.value)).meaning b.value) l.yielded)
