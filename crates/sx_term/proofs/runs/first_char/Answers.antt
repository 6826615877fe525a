use Rattle.sx_term.proofs.RunLemmas.{first_some, first_boundary}
use Rattle.sx_term.proofs.runs.first_char.Goals as goal

pub returns-clause-some : goal.returns-clause-some
returns-clause-some c = first_some c.args.text.now _ _ c.next.result _ c.chars.ensures.rest c.next.ensures.steps.0

pub returns-clause-boundary : goal.returns-clause-boundary
returns-clause-boundary c = first_boundary c.args.text.now _ _ c.next.result _ c.utf8.text c.chars.ensures.rest c.next.ensures.steps.0
