use Rattle.std.proofs.Common.{rules}
use Rattle.sx_lines.proofs.words.leads_with_zero.Goals as goal

pub returns-in-len2-up : goal.returns-in-len2-up
returns-in-len2-up c = search rules
