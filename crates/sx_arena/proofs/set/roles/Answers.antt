use Rattle.std.proofs.Common.{ap}
use Rattle.sx_rules.specs.SubjectTerms.{output_mask}
use Rattle.sx_arena.proofs.set.roles.Goals as goal

pub returns : goal.returns
returns c = ap output_mask c.places_of.ensures.places
