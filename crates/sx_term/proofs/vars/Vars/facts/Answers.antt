use Rattle.std.proofs.Common.{subst}
use Rattle.sx_term.specs.Cutting.{AreDistinct}
use Rattle.sx_term.proofs.VarLemmas.{AreDistinct-from_IsDistinct}
use Rattle.sx_term.proofs.vars.Vars.facts.Goals as goal

pub returns : goal.returns
returns c = subst AreDistinct c.self.view_is (AreDistinct-from_IsDistinct c.self.inside.names.keys c.self.invariant)
