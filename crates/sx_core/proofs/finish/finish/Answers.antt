use Rattle.std.proofs.Common.{refl, inl, inr}
use Rattle.sx_core.proofs.FinishLaws.{made_ended}
use Rattle.sx_core.proofs.finish.finish.Goals as goal

pub returns-in-Start : goal.returns-in-Start
returns-in-Start c = rw c.bad_line.ensures (c.in-Start.is, refl)

pub returns-in-Declaring : goal.returns-in-Declaring
returns-in-Declaring c = rw c.bad_line-in-Declaring.ensures (c.in-Declaring.is, refl)

pub returns-in-Premising : goal.returns-in-Premising
returns-in-Premising c = rw c.bad_line-in-Premising.ensures (c.in-Premising.open, inl c.in-Premising.is, refl)

pub returns-in-Concluded : goal.returns-in-Concluded
returns-in-Concluded c = rw c.bad_line-in-Concluded.ensures (c.in-Concluded.open, inr (_, c.in-Concluded.is), refl)

pub returns-in-Over : goal.returns-in-Over
returns-in-Over c = made_ended c.args.reader c.args.reader.stage c.args.number c.in-Over.goal c.make_problem.result c.in-Over.is c.make_problem.ensures
