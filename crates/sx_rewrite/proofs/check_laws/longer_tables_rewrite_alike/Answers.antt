use Rattle.sx_rewrite.proofs.LongerTables.{longer_tables_rewrite_alike}
use Rattle.sx_rewrite.proofs.check_laws.longer_tables_rewrite_alike.Goals as goal

pub returns : goal.returns
returns c = longer_tables_rewrite_alike
