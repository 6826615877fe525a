use Rattle.std.proofs.Common.{rules}
use Rattle.sx_lines.proofs.rest.Rest.all.Goals as goal

pub returns-clause-lines : goal.returns-clause-lines
returns-clause-lines c = search rules
