use Rattle.std.proofs.Common.{refl}
use Rattle.sx_outline.proofs.next_line.other_line.Goals as goal

pub returns-in-Ok-clause-read : goal.returns-in-Ok-clause-read
returns-in-Ok-clause-read c = λ known. c.in-Ok.ensures known c.args.reader refl refl

pub returns-in-Err-clause-read : goal.returns-in-Err-clause-read
returns-in-Err-clause-read c = λ known. c.in-Err.ensures known c.args.reader refl refl
