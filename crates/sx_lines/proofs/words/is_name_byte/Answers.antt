use Rattle.std.proofs.Common.{rules}
use Rattle.sx_lines.proofs.words.is_name_byte.Goals as goal

pub returns-then-dash : goal.returns-then-dash
returns-then-dash c = search rules

pub returns-else-dash : goal.returns-else-dash
returns-else-dash c = search rules
