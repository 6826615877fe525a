use Rattle.sx_steps.proofs.Units.{three_files}
use Rattle.sx_steps.proofs.unit.built_work.Goals as goal

pub returns : goal.returns
returns c =
    three_files c.in_ok-files.files.items c.in_ok-base.base c.in_ok-list.list c.in_ok-interface.interface _ _ _ c.in_ok-lines.lines.items _
    c.in_ok-files.ensures c.in_ok-base.ensures c.in_ok-list.ensures c.in_ok-interface.ensures c.in_ok-lines.ensures
