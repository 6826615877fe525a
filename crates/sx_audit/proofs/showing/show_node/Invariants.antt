use Rattle.std.proofs.Common.{map}
use Rattle.sx_audit.specs.Meaning.{node}
use Rattle.sx_audit.proofs.OneNode.{Passing}
use Rattle.sx_audit.proofs.showing.show_node.Given as goal

abbrev pub invariant-loop-auditor : goal.invariant-loop-auditor
invariant-loop-auditor g l =
    Passing (node l.rule l.depth)
    (map (λ b. (goal.Auditor-dyn g (b.vtable, b.value)).meaning b.value) l.fn.auditors.items)
    (map (λ b. (goal.Auditor-dyn g (b.vtable, b.value)).meaning b.value) l.auditor-items)
    l.auditor-index
