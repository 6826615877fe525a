use Rattle.sx_dialects.proofs.LanguagesBegun.{extended_is_dialect}
use Rattle.sx_dialects.proofs.laws.extended_is_dialect.Goals as goal

pub returns : goal.returns
returns c = extended_is_dialect
