use Rattle.sx_rewrite.proofs.Checks.{flat_premises_are_base}
use Rattle.sx_rewrite.proofs.check_laws.flat_premises_are_base.Goals as goal

pub returns : goal.returns
returns c = flat_premises_are_base
