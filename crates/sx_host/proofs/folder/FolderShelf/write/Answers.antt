use Rattle.std.proofs.Common.{arith}
use Rattle.sx_host.proofs.folder.FolderShelf.write.Goals as goal

pub returns-else-write_all-clause-cause : goal.returns-else-write_all-clause-cause
returns-else-write_all-clause-cause c = λ _ below. omega arith
