use Rattle.sx_outline.proofs.StepLaws.{plain_taken, plain_refused}
use Rattle.sx_outline.proofs.reader.Reader.take_plain.Goals as goal

pub returns-in-Some-clause-taken : goal.returns-in-Some-clause-taken
returns-in-Some-clause-taken c = λ known. plain_taken known c.args.self c.args.number c.args.plain c.in-Some.stage c.in-Some.ensures

pub returns-in-None-clause-taken : goal.returns-in-None-clause-taken
returns-in-None-clause-taken c = λ known. plain_refused known c.args.self c.args.number c.args.plain c.out_of_order.result c.out_of_order.ensures c.in-None.ensures
