use Rattle.std.proofs.Common.{rules}
use Rattle.sx_lines.specs.Bytes.{is_skipped}
use Rattle.sx_lines.proofs.reading.is_skipped.Goals as goal

pub returns-then-byte_at-eq47 : goal.returns-then-byte_at-eq47
unfolding is_skipped
returns-then-byte_at-eq47 c = search rules
