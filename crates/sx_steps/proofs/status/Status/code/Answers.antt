use Rattle.sx_steps.proofs.status.Status.code.Goals as goal

pub returns-in-Spent : goal.returns-in-Spent
returns-in-Spent c = rw c.in-Spent.is
