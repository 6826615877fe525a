use Rattle.sx_environment.proofs.RowLines.{rows_have_lines}
use Rattle.sx_environment.proofs.laws.rows_have_lines.Goals as goal

pub returns : goal.returns
returns c = rows_have_lines
