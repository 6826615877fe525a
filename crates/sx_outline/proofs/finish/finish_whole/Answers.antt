use Rattle.std.proofs.Common.{subst}
use Rattle.sx_outline.specs.Reading.{IsMainRead}
use Rattle.sx_outline.specs.View as view
use Rattle.sx_outline.proofs.EndLaws.{finished}
use Rattle.sx_outline.proofs.finish.finish_whole.Goals as goal

pub returns-in-Some : goal.returns-in-Some
returns-in-Some c = λ s whole e main rules. (
  whole,
  finished (view.known c.args.known) s _ e c.requires (subst (λ x. IsMainRead (view.known c.args.known) x s.declared.mains) c.in-Some.is main)
      c.into_parts-parts.ensures.parts c.into_parts-parts.ensures.vars c.into_parts-parts.ensures.forms rules,
)
