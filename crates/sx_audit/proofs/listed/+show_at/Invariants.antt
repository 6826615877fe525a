use Rattle.std.proofs.Common.{List, ◌<◌, ◌-◌, map, drop, length}
use Rattle.sx_rules.specs.Derivations.{Proof}
use Rattle.sx_rules.specs.EntryView.{entries}
use Rattle.sx_rules.specs.Orders.{Entry}
use Rattle.sx_rules.specs.Sets.{bare_rules_in}
use Rattle.sx_rules.specs.Views as view
use Rattle.sx_audit.specs.Standing.{IsDerivationAt}
use Rattle.sx_audit.specs.contracts.listed.show_at as contract
use Rattle.sx_audit.proofs.ListNodes.{Left}
use Rattle.sx_audit.proofs.listed.+show_at.Given as goal

abbrev pub decreases-show_at : goal.decreases-show_at
decreases-show_at g l = length l.list.now - l.at

abbrev pub invariant-loop-premise : goal.invariant-loop-premise
invariant-loop-premise g l =
    (l.at < l.next) × ((p : Proof) (rest : List Entry) →
    IsDerivationAt (bare_rules_in l.rules) (entries l.list) l.at l.depth p rest →
    Left l.rules.rules.items (entries l.list) l.at l.depth p rest
    (map (λ b. ((contract.dyn-1-ghosts g.dyn-1).0.entry b.vtable).1.meaning b.value)
    l.fn.auditors.items)
    (map (λ b. ((contract.dyn-1-ghosts g.dyn-1).0.entry b.vtable).1.meaning b.value)
    l.auditors.items) l.next (map view.premise (drop l.premise-index l.premise-items)))
