use Rattle.sx_directives.proofs.SpellingLaws.{after_cases}
use Rattle.sx_directives.proofs.symbols.after_front.Goals as goal

pub returns : goal.returns
returns c = after_cases c.args.front.now c.args.part.now c.after.result c.after.ensures
