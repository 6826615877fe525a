use Rattle.sx_auditing.proofs.TextsPut.{text-put}
use Rattle.sx_auditing.proofs.texts.put_texts.Goals as goal

pub loop-auditor-preserved : goal.loop-auditor-preserved
loop-auditor-preserved g c =
    text-put _ c.args.auditors.now c.loop-auditor.auditor-index c.auditor-item.result
    c.loop-auditor-test.true c.auditor-item.is _ _ _ c.in_ok-put_text.ensures
    c.loop-auditor.invariant
