use Rattle.std.proofs.Common.{rules, arith}
use Rattle.sx_host.proofs.folder.FolderShelf.read.Goals as goal

pub returns-in-Failed-clause-cause : goal.returns-in-Failed-clause-cause
returns-in-Failed-clause-cause c = λ _ below. omega arith

pub returns-in-Absent : goal.returns-in-Absent
returns-in-Absent c = search rules
