use Rattle.std.proofs.Common.{ap, length, ◌∙◌, arith}
use Rattle.sx_audit.proofs.OneNode.{passing-none, node-admitted, node-refused, node-shown}
use Rattle.sx_audit.proofs.showing.show_node.Goals as goal

pub loop-auditor-init : goal.loop-auditor-init
loop-auditor-init g c = passing-none _ _ _ _ c.deref_mut-auditor-items.ensures.value

pub loop-auditor-preserved : goal.loop-auditor-preserved
loop-auditor-preserved g c =
    let many = ap length c.deref_mut-auditor-items.ensures.value in
    node-admitted _ _ c.args.auditors.now _ _ c.args.before _
    (c.loop-auditor.auto.auditor-items ∙ many) c.loop-auditor.invariant
    c.saturating_add-number.ensures _ c.show_one.new.auditor (omega (arith, many))
    c.show_one.ensures.state c.in_ok-show_one.ensures.answer

pub returns-in_err-show_one : goal.returns-in_err-show_one
returns-in_err-show_one g c =
    let many = ap length c.deref_mut-auditor-items.ensures.value in
    node-refused _ _ c.args.auditors.now _ _ c.args.before _
    (c.loop-auditor.auto.auditor-items ∙ many) c.loop-auditor.invariant
    c.saturating_add-number.ensures _ c.show_one.new.auditor (omega (arith, many))
    c.show_one.ensures.state _ _ c.from_residual.ensures.1 c.in_err-show_one.ensures.answer

pub returns : goal.returns
returns g c =
    let many = ap length c.deref_mut-auditor-items.ensures.value in
    node-shown _ _ c.args.auditors.now _ _ c.args.before _
    (c.loop-auditor.auto.auditor-items ∙ many) c.loop-auditor.invariant
    c.saturating_add-number.ensures (omega (arith, many))
