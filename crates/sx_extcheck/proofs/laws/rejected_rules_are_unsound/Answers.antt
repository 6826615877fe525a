use Rattle.sx_rewrite.proofs.Sound.{rejected_is_unsound}
use Rattle.sx_extcheck.proofs.StoredRules.{checked-rejected}
use Rattle.sx_extcheck.proofs.laws.rejected_rules_are_unsound.Goals as goal

pub returns : goal.returns
returns c = λ k ext base plain b h s sound. rejected_is_unsound k.sig k.labels k.set ext s (checked-rejected k ext base plain h.0) sound
