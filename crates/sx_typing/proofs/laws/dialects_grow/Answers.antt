use Rattle.sx_typing.proofs.Grown.{languages_are_dialects, dialects_grow}
use Rattle.sx_typing.proofs.laws.dialects_grow.Goals as goal

pub returns-clause-first : goal.returns-clause-first
returns-clause-first c = languages_are_dialects

pub returns-clause-next : goal.returns-clause-next
returns-clause-next c = dialects_grow
