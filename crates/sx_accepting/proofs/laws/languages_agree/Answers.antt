use Rattle.sx_accepting.proofs.OneLanguageFile.{languages_agree}
use Rattle.sx_accepting.proofs.laws.languages_agree.Goals as goal

pub returns : goal.returns
returns c = languages_agree
