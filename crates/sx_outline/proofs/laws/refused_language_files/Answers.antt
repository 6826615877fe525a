use Rattle.sx_outline.proofs.RefusedLines.{language_refused}
use Rattle.sx_outline.proofs.laws.refused_language_files.Goals as goal

pub returns : goal.returns
returns c = language_refused
