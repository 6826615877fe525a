use Rattle.std.proofs.Common.{◌+◌, ◌-◌, ◌^◌, ◌≤◌, map, ap, arith}
use Rattle.std.proofs.lemmas.List.{length-map}
use Rattle.sx_rules.specs.EntryView.{entry}
use Rattle.sx_rules.specs.Views as view
use Rattle.sx_audit.proofs.ListNodes.{root-there, root-within, place-within, root-shown, root-stops}
use Rattle.sx_audit.proofs.ListNodes.{kid-there, kid-after, kid-shown, kid-stops, left-is}
use Rattle.sx_audit.proofs.ListNodes.{none-asked, all-shown, then-rest, asks-kid, asks-none}
use Rattle.sx_audit.proofs.ListNodes.{no-premise}
use Rattle.sx_audit.proofs.listed.+show_at.Goals.{in-Holds+in_ok-next-in-Holds, in-Apart}
use Rattle.sx_audit.proofs.listed.+show_at.Goals as goal

pub rule_number-requires : goal.rule_number-requires
rule_number-requires g t c =
    root-there c.args.rules.now.rules.items _ _ _ c.requires.0 c.requires.1 c.requires.2

pub rule_at-rule-requires : goal.rule_at-rule-requires
rule_at-rule-requires g t c =
    root-within c.args.rules.now.rules.items _ _ _ c.requires.0 c.requires.1 c.requires.2 _
    c.rule_number.ensures

pub overflow_add-next : goal.overflow_add-next
overflow_add-next g t c =
    let w = place-within c.args.rules.now.rules.items _ _ _ c.requires.0 c.requires.1
    c.requires.2 in
    let many = length-map c.args.list.now entry in
    omega (arith, w, many)

pub returns-in_err-show_node-clause-shown : goal.returns-in_err-show_node-clause-shown
returns-in_err-show_node-clause-shown g t c p rest s =
    root-stops c.args.rules.now.rules.items _ _ _ p rest s _ _ c.rule_number.ensures
    c.rule_at-rule.ensures (omega arith) _ _ _ _ c.from_residual.ensures.1
    c.in_err-show_node.ensures

pub loop-premise-init : goal.loop-premise-init
loop-premise-init g t c = (
  omega arith,
  λ p rest s.
      let w = place-within c.args.rules.now.rules.items _ _ _ p rest s in
      let many = length-map c.args.list.now entry in
      let small : c.args.at + 1 ≤ 2 ^ 64 - 1 = omega (arith, w, many) in
      root-shown c.args.rules.now.rules.items _ _ _ p rest s _ _ c.rule_number.ensures
      c.rule_at-rule.ensures small _ (ap (map view.premise) c.deref-premise-items.ensures.value)
      _ _ _ c.in_ok-show_node.ensures,
)

pub show_at-requires : goal.show_at-requires
show_at-requires g t c =
    let w = place-within c.args.rules.now.rules.items _ _ _ c.requires.0 c.requires.1
    c.requires.2 in
    let many = length-map c.args.list.now entry in
    let on = c.loop-premise.invariant.0 in (
      omega (arith, w, many, on, c.decreases),
      kid-there c.args.rules.now.rules.items _ _ _ _ _ _ _ _ _ _ _
          (asks-kid _ _ _ c.loop-premise-test.true c.premise-item.is _ c.in-Holds.is)
          (c.loop-premise.invariant.1 c.requires.0 c.requires.1 c.requires.2),
    )

pub returns-in_err-next-in-Holds-clause-shown : goal.returns-in_err-next-in-Holds-clause-shown
returns-in_err-next-in-Holds-clause-shown g t c p rest s =
    kid-stops c.args.rules.now.rules.items _ _ _ _ _ _ _ _ _ _ _
    (asks-kid _ _ _ c.loop-premise-test.true c.premise-item.is _ c.in-Holds.is)
    (c.loop-premise.invariant.1 p rest s) _ _ _ c.from_residual-in_err-next-in-Holds.ensures.1
    c.in_err-next-in-Holds.ensures.shown

pub returns-clause-shown : goal.returns-clause-shown
returns-clause-shown g t c p rest s =
    all-shown c.args.rules.now.rules.items _ _ _ p rest _ _ _ _
    (no-premise _ _ c.loop-premise-test.false) (c.loop-premise.invariant.1 p rest s)

pub returns-clause-next : goal.returns-clause-next
returns-clause-next g t c p rest s =
    then-rest c.args.rules.now.rules.items _ _ _ p rest _ _ _ _
    (no-premise _ _ c.loop-premise-test.false) (c.loop-premise.invariant.1 p rest s)

pub loop-premise-preserved : goal.loop-premise-preserved
loop-premise-preserved g t c = elim c.match-premise.branch [
  | in-Holds+in_ok-next-in-Holds w ↦ (
    let on = c.loop-premise.invariant.0 in
        let after = kid-after c.args.rules.now.rules.items _ _ _ _ _ _ _ _ _ _ _
        (asks-kid _ _ _ c.loop-premise-test.true c.premise-item.is _ w.in-Holds.is)
        (c.loop-premise.invariant.1 c.requires.0 c.requires.1 c.requires.2) _ _
        w.in_ok-next-in-Holds.ensures.shown in
        omega (arith, on, after, w.next-is),
    λ p rest s.
        left-is c.args.rules.now.rules.items _ _ _ _ p rest _ _ _ _ _ _
        (ap (λ v. v.items) w.auditors-is) w.next-is
        (kid-shown c.args.rules.now.rules.items _ _ _ p rest _ _ _ _ _ _
        (asks-kid _ _ _ c.loop-premise-test.true c.premise-item.is _ w.in-Holds.is)
        (c.loop-premise.invariant.1 p rest s) _ _ w.in_ok-next-in-Holds.ensures.shown
        w.in_ok-next-in-Holds.ensures.next),
  )
  | in-Apart w ↦ (
    let on = c.loop-premise.invariant.0 in omega (arith, on, w.next-is),
    λ p rest s.
        left-is c.args.rules.now.rules.items _ _ _ _ p rest _ _ _ _ _ _
        (ap (λ v. v.items) w.auditors-is) w.next-is
        (none-asked c.args.rules.now.rules.items _ _ _ p rest _ _ _ _ _ _ _
        (asks-none _ _ _ c.loop-premise-test.true c.premise-item.is _ _ w.in-Apart.is)
        (c.loop-premise.invariant.1 p rest s)),
  )
]
