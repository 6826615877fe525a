use Rattle.sx_steps.proofs.stop.defect_status.Goals as goal

pub returns-in-Budget : goal.returns-in-Budget
returns-in-Budget c = rw c.in-Budget.is
