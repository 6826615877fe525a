use Rattle.sx_extension.proofs.Going.{languages_begin}
use Rattle.sx_extension.proofs.laws.languages_begin.Goals as goal

pub returns : goal.returns
returns c = languages_begin
