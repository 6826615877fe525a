use Rattle.sx_auditing.proofs.Names.{word-kept}
use Rattle.sx_auditing.proofs.laws.words_are_kept.Goals as goal

pub returns : goal.returns
returns c = word-kept
