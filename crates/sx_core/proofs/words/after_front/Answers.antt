use Rattle.sx_core.proofs.Wording.{after_cases}
use Rattle.sx_core.proofs.words.after_front.Goals as goal

pub returns : goal.returns
returns c = after_cases c.args.front.now c.args.text.now c.after.result c.after.ensures
