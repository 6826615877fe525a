use Rattle.sx_language.proofs.OneLanguage.{one_language}
use Rattle.sx_language.proofs.laws.one_language.Goals as goal

pub returns : goal.returns
returns c = one_language
