use Rattle.sx_directives.proofs.SpellingLaws.{sort_levelled, sort_unnamed}
use Rattle.sx_directives.proofs.sorts.sort_of.Goals as goal

pub returns-in-Some-split_level : goal.returns-in-Some-split_level
returns-in-Some-split_level c = sort_levelled c.args.part.now c.in-Some-split_level.name.now c.in-Some-split_level.digits.now c.levelled.result c.in_default.ensures c.in-Some-split_level.ensures c.levelled.ensures

pub returns-in-Err : goal.returns-in-Err
returns-in-Err c = sort_unnamed c.args.part.now c.in-Err.e c.in_default.ensures c.in-None.ensures c.in-Err.ensures
