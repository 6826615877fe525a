use Rattle.sx_outline.proofs.RefusedExtensions.{extension_refused}
use Rattle.sx_outline.proofs.laws.refused_extension_files.Goals as goal

pub returns : goal.returns
returns c = extension_refused
