use Rattle.std.proofs.Common.{◌≡◌, ◌++◌, take, codes}
use Rattle.sx_lines.specs.Reading.{written}
use Rattle.sx_interface.specs.StatedHeader.{row_lines}
use Rattle.sx_unit.proofs.texts.put_imports.Given as goal

abbrev pub invariant-loop-i : goal.invariant-loop-i
invariant-loop-i l = l.into.items ≡ l.fn.into.items ++ written
    (row_lines (codes "import ") (take l.i l.imports))
