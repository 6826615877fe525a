use Rattle.sx_language.proofs.Stating.{usable}
use Rattle.sx_language.proofs.preparing.outline_of.Goals as goal

pub returns-in-Ok-clause-usable : goal.returns-in-Ok-clause-usable
returns-in-Ok-clause-usable c = usable c.args.name.now c.args.bytes.now c.in-Ok.outline c.requires c.in-Ok.ensures.answer c.in-Ok.ensures.sized c.in-Ok.ensures.fit
