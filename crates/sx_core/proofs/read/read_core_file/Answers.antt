use Rattle.std.proofs.Common.{subst}
use Rattle.sx_lines.specs.Lines.{Lines}
use Rattle.sx_lines.specs.Reading.{kept}
use Rattle.sx_core.specs.CoreRead.{AreCoreLinesRead}
use Rattle.sx_core.proofs.LoopLaws.{core_read}
use Rattle.sx_core.proofs.read.read_core_file.Goals as goal

pub returns-in_ok-sorts-in-Ok : goal.returns-in_ok-sorts-in-Ok
returns-in_ok-sorts-in-Ok c =
    core_read c.args.bytes.now c.read_rows.result c.in-Ok.ensures.cases.1
    (subst (λ (z : Lines). AreCoreLinesRead (kept z) c.read_rows.result) c.all-rest.ensures.lines c.read_rows.ensures)
