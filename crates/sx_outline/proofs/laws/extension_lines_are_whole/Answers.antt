use Rattle.sx_outline.proofs.RefusedExtensions.{extension_whole}
use Rattle.sx_outline.proofs.laws.extension_lines_are_whole.Goals as goal

pub returns : goal.returns
returns c = extension_whole
