use Rattle.std.proofs.Common.{ap, sym, ◌∙◌}
use Rattle.sx_core.specs.declared.rows.SortRow.{SortRow}
use Rattle.sx_core.proofs.FinishLaws.{row_names_more}
use Rattle.sx_core.proofs.finish.names_of_sorts.Goals as goal

pub loop-i-preserved : goal.loop-i-preserved
loop-i-preserved c = row_names_more c.args.rows.now c.loop-i.i c.index-rows-i.result c.loop-i.names.items c.push.new.self.items c.in_ok-copy.field-0 c.loop-i-test.true c.index-rows-i.is c.in_ok-push.ensures.items (c.in_ok-copy.ensures ∙ ap (λ (r : SortRow). r.name) (sym c.index-rows-i.is)) c.loop-i.invariant
