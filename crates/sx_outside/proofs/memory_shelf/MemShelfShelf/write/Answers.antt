use Rattle.std.proofs.Common.{◌∙◌, ap}
use Rattle.sx_outside.specs.FilesLaws.{put-other}
use Rattle.sx_outside.proofs.memory_shelf.MemShelfShelf.write.Goals as goal

pub returns-in-Ok-clause-answer : goal.returns-in-Ok-clause-answer
returns-in-Ok-clause-answer c = λ other differs. ap (λ files. files other) c.in-Ok.ensures.ok ∙ put-other _ _ _ other differs
