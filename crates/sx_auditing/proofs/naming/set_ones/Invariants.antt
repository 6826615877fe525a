use Rattle.std.proofs.Common.{◌≡◌, map}
use Rattle.sx_auditing.specs.Naming.{set_ones}
use Rattle.sx_auditing.proofs.naming.set_ones.Given as goal

abbrev pub invariant-loop-slot : goal.invariant-loop-slot
invariant-loop-slot g l =
    map (λ b. (goal.Auditor-dyn g (b.vtable, b.value)).meaning b.value) l.kept.items
    ≡ set_ones (map (λ s. record {
      auditor = (goal.Auditor-dyn g (s.auditor.vtable, s.auditor.value)).meaning s.auditor.value;
      is_set = s.is_set;
    }) l.yielded)
