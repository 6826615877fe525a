use Rattle.sx_check.proofs.Agreeing.{checks_one}
use Rattle.sx_check.proofs.laws.checks_agree.Goals as goal

pub returns : goal.returns
returns c = checks_one c.one_extension_header.ensures
