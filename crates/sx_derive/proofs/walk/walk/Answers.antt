use Rattle.std.proofs.Common.{arith}
use Rattle.sx_derive.proofs.walk.walk.Goals as goal

pub overflow_sub-budget : goal.overflow_sub-budget
overflow_sub-budget g c =
    let f = c.requires.facts in
    let e = (c.in_ok-walked.ensures f.0 f.1).0.2 in
    omega arith

pub returns : goal.returns
returns g c = λ js a.
    let w = c.in_ok-walked.ensures js a in
    let e = w.0.2 in
    let k = c.count.ensures in
    (c.walk_goal.new.tries, w, (omega arith))
