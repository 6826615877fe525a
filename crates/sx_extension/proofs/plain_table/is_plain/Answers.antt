use Rattle.sx_extension.proofs.Lacking.{plain_at}
use Rattle.sx_extension.proofs.plain_table.is_plain.Goals as goal

pub returns : goal.returns
returns c = plain_at c.args.all.now.cons.items c.args.label c.index.result.now c.is_untyped.result c.requires c.index.ensures c.is_untyped.ensures
