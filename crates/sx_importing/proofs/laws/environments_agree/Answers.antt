use Rattle.sx_importing.proofs.OneImports.{sees_by}
use Rattle.sx_importing.proofs.laws.environments_agree.Goals as goal

pub returns : goal.returns
returns c = sees_by c.one_environment.ensures
