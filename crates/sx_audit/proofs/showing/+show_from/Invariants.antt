use Rattle.std.proofs.Common.{◌+◌, map, drop}
use Rattle.sx_rules.specs.Sets.{rules_in}
use Rattle.sx_rules.specs.ProofView as view
use Rattle.sx_audit.specs.Preorder.{nodes, nodes_of_each}
use Rattle.sx_audit.specs.contracts.showing.show_from as contract
use Rattle.sx_audit.proofs.Carrying.{Carries}
use Rattle.sx_audit.proofs.showing.+show_from.Given as goal

abbrev pub decreases-show_from : goal.decreases-show_from
decreases-show_from g l = goal.size-show_from g l

abbrev pub invariant-loop-kid : goal.invariant-loop-kid
invariant-loop-kid g l =
    Carries l.before
    (map (λ b. ((contract.dyn-1-ghosts g.dyn-1).0.entry b.vtable).1.meaning b.value)
    l.fn.auditors.items)
    (nodes (rules_in l.rules) l.depth (view.proof l.proof)) l.shown
    (map (λ b. ((contract.dyn-1-ghosts g.dyn-1).0.entry b.vtable).1.meaning b.value)
    l.auditors.items)
    (nodes_of_each (rules_in l.rules) (l.depth + 1) (view.boxed (drop l.kid-index l.kid-items)))
