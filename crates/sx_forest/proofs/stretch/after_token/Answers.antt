use Rattle.std.proofs.Common.{arith}
use Rattle.sx_forest.proofs.stretch.after_token.Goals as goal

pub returns-then-own : goal.returns-then-own
returns-then-own c = λ p is low.
    let here = (c.clipped-own.ensures.same p (omega arith) (omega arith)).0 is in let first = here.0 in let end = here.1 in
    let none = c.if-own.true in absurd (omega arith)

pub returns : goal.returns
returns c = λ p is low.
    let here = (c.clipped-own.ensures.same p (omega arith) (omega arith)).0 is in let first = here.0 in let end = here.1 in
    (omega arith, omega arith)
