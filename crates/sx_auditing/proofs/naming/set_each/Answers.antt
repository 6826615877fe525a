use Rattle.sx_auditing.proofs.Sets.{stops-here}
use Rattle.sx_auditing.proofs.naming.set_each.Goals as goal

pub returns-in-Err-Bad-clause-step : goal.returns-in-Err-Bad-clause-step
returns-in-Err-Bad-clause-step g c =
    stops-here c.args.audits.now c.loop-audit.audit-index c.audit-item.result
    c.loop-audit-test.true c.audit-item.is _ _ c.loop-audit.invariant
    (rw c.in-Err-Bad.field-0-is at c.in-Err-Bad.ensures) _
    c.in_ok-bad_word-in-Err-Bad.ensures
