use Rattle.std.proofs.Common.{rules}
use Rattle.sx_directives.proofs.SpellingLaws.{named_text}
use Rattle.sx_directives.proofs.part_texts.name_of.Goals as goal

pub returns : goal.returns
returns c = named_text c.args.part.now c.row_text.result (search rules) c.row_text.ensures
