use Rattle.sx_importing.proofs.OneImports.{reads_imports_one}
use Rattle.sx_importing.proofs.laws.imports_are_one.Goals as goal

pub returns : goal.returns
returns c = reads_imports_one
