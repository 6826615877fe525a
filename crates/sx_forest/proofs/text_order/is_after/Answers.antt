use Rattle.sx_forest.proofs.Afterness.{beyond}
use Rattle.sx_forest.proofs.text_order.is_after.Goals as goal

pub returns-in-Greater-clause-after : goal.returns-in-Greater-clause-after
returns-in-Greater-clause-after c = λ e. beyond c.args.first.now c.args.second.now c.cmp.result c.cmp.ensures c.in-Greater.is
