use Rattle.std.proofs.Common.{◌≡◌, length}
use Rattle.sx_lines.specs.Left.{left}
use Rattle.sx_lines.specs.Reading.{each_line}
use Rattle.sx_lines.proofs.EachLaws.{with_front}
use Rattle.sx_rules.specs.Sets.{names_in}
use Rattle.sx_rules.specs.ListText.{entry_of}
use Rattle.sx_rules.proofs.list_reading.entries.Given as goal

abbrev pub invariant-lines : goal.invariant-lines
invariant-lines l = with_front l.list.items (each_line (entry_of (names_in l.rules)) (left l.rest)) ≡ each_line (entry_of (names_in l.rules)) (left l.fn.rest)

abbrev pub decreases-lines : goal.decreases-lines
decreases-lines l = length l.rest.bytes.now
