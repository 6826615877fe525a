use Rattle.std.proofs.Common.{ap, map, ◌∙◌}
use Rattle.sx_audit.specs.Meaning.{AuditState}
use Rattle.sx_audit.specs.Kinds.{tally_kind}
use Rattle.sx_audit.specs.Rows.{row_after}
use Rattle.sx_audit.proofs.RowLaws.{all_counted}
use Rattle.sx_audit.proofs.tallying.TallyAuditor.see.Goals as goal

pub returns-clause-state : goal.returns-clause-state
returns-clause-state c =
    let written = c.count_each.ensures
    ∙ ap (map (row_after c.args.rule.now)) c.deref_mut.ensures.value in
    ap (λ (s : AuditState). record { kind = tally_kind c.args.self.now.name; state = s })
    (all_counted c.args.self.now.rows _ c.args.rule.now written)
