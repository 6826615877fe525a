use Rattle.std.proofs.Common.{refl}
use Rattle.std.proofs.lemmas.Bool.{false≢true}
use Rattle.sx_directives.proofs.BodyLaws.{cut_body}
use Rattle.sx_directives.proofs.body.has_body.Goals as goal

pub returns-in-Some : goal.returns-in-Some
returns-in-Some c = (λ t. cut_body c.args.line.now c.in-Some.field-0.1.now c.in-Some.field-0.0 c.in-Some.ensures, λ h. refl)

pub returns-in-None : goal.returns-in-None
returns-in-None c = (λ t. absurd (false≢true t), λ h. absurd (c.in-None.ensures h.0 h.1))
