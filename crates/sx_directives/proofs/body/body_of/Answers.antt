use Rattle.sx_directives.proofs.BodyLaws.{body_text}
use Rattle.std.proofs.Common.{◌∙◌}
use Rattle.sx_directives.proofs.body.body_of.Goals as goal

pub returns-in_ok-all-in-Some : goal.returns-in_ok-all-in-Some
returns-in_ok-all-in-Some c = body_text c.args.line.now c.deref.result.now c.in-Some.body.now c.in-Some.count c.row_text.result c.in-Some.ensures (c.deref.ensures.value ∙ c.in_ok-all-in-Some.ensures) c.row_text.ensures

pub returns-in-None : goal.returns-in-None
returns-in-None c = λ x h. c.in-None.ensures x h.0
