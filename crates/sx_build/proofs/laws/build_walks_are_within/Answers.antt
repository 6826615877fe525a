use Rattle.sx_build.proofs.Counted.{build_walks_are_within}
use Rattle.sx_build.proofs.laws.build_walks_are_within.Goals as goal

pub returns : goal.returns
returns c = build_walks_are_within c.units_walks_are_within.ensures
