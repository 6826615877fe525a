use Rattle.sx_verify.proofs.Agreeing.{verifies_by}
use Rattle.sx_verify.proofs.laws.verifies_agree.Goals as goal

pub returns : goal.returns
returns c = verifies_by c.one_environment.ensures c.extended_is_dialect.ensures
