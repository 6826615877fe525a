use Rattle.std.proofs.Common.{map, take}
use Rattle.std.specs.List.{AllByRecursion}
use Rattle.sx_auditing.specs.Setting.{HasOtherName}
use Rattle.sx_auditing.proofs.naming.place_of.Given as goal

abbrev pub invariant-loop-place : goal.invariant-loop-place
invariant-loop-place g l =
    AllByRecursion (HasOtherName l.name) (take l.place (map (λ s. record {
      auditor = (goal.Auditor-dyn g (s.auditor.vtable, s.auditor.value)).meaning s.auditor.value;
      is_set = s.is_set;
    }) l.slots))
