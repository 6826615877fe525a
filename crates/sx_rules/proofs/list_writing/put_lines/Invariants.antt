use Rattle.std.proofs.Common.{◌≡◌, ◌++◌, take}
use Rattle.sx_lines.specs.Reading.{written}
use Rattle.sx_rules.specs.Sets.{names_in}
use Rattle.sx_rules.specs.ListText.{list_lines}
use Rattle.sx_rules.proofs.list_writing.put_lines.Given as goal

abbrev pub invariant-loop-entry : goal.invariant-loop-entry
invariant-loop-entry l = l.into.items ≡ l.fn.into.items ++ written (list_lines (names_in l.rules) (take l.entry-index l.list))
