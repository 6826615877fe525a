use Rattle.sx_uses.proofs.Agreeing.{files_one}
use Rattle.sx_uses.proofs.laws.files_agree.Goals as goal

pub returns : goal.returns
returns c = files_one c.one_extension_header.ensures
