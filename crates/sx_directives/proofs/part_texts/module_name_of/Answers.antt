use Rattle.sx_directives.proofs.SpellingLaws.{module_text}
use Rattle.std.proofs.Common.{rules}
use Rattle.sx_directives.proofs.part_texts.module_name_of.Goals as goal

pub returns : goal.returns
returns c = module_text c.args.part.now c.row_text.result (search rules) c.row_text.ensures
