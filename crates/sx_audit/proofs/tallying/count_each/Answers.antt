use Rattle.std.proofs.Common.{ap, sym, set, ◌∙◌}
use Rattle.std.proofs.lemmas.List.Edits.{map_over_more}
use Rattle.sx_audit.specs.Rows.{row_after}
use Rattle.sx_audit.proofs.tallying.count_each.Goals as goal

pub loop-row-preserved : goal.loop-row-preserved
loop-row-preserved c =
    let after = row_after c.args.rule.now in
    ap (set c.loop-row.rows c.loop-row.row-index) (c.count.ensures ∙ ap after (sym c.row-item.is))
    ∙ map_over_more after _ _ _ _ c.loop-row-test.true c.loop-row.invariant c.row-item.is
