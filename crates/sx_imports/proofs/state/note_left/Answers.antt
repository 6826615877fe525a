use Rattle.sx_imports.proofs.state.note_left.Goals as goal

pub returns-clause-marks : goal.returns-clause-marks
returns-clause-marks c = c.in_ok-mark.ensures
