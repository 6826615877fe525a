use Rattle.sx_lines.proofs.reading.next_number.Goals as goal

pub returns : goal.returns
returns c = c.saturating_add.ensures
