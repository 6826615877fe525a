use Rattle.std.proofs.Common.{◌≡◌, ◌++◌, drop, map}
use Rattle.sx_auditing.specs.Texts.{texts_of}
use Rattle.sx_auditing.proofs.texts.put_texts.Given as goal

abbrev pub invariant-loop-auditor : goal.invariant-loop-auditor
invariant-loop-auditor g l =
    l.into.items ++ texts_of (map (λ b. (goal.Auditor-dyn g (b.vtable, b.value)).meaning b.value)
    (drop l.auditor-index l.auditors))
    ≡ l.fn.into.items ++ texts_of
    (map (λ b. (goal.Auditor-dyn g (b.vtable, b.value)).meaning b.value) l.auditors)
