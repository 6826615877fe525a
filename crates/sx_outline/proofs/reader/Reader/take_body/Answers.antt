use Rattle.sx_outline.proofs.StepLaws.{body_taken, body_refused}
use Rattle.sx_outline.proofs.reader.Reader.take_body.Goals as goal

pub returns-in-Some-clause-taken : goal.returns-in-Some-clause-taken
returns-in-Some-clause-taken c = λ known. body_taken known c.args.self c.args.number c.args.body c.in-Some.stage c.in-Some.ensures

pub returns-in-None-clause-taken : goal.returns-in-None-clause-taken
returns-in-None-clause-taken c = λ known. body_refused known c.args.self c.args.number c.args.body c.out_of_order.result c.out_of_order.ensures c.in-None.ensures
