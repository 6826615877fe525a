use Rattle.sx_grammar.specs.Parts.{parts}
use Rattle.sx_grammar.specs.Made.{MixesSorts}
use Rattle.sx_grammar.proofs.FirstLaws.{none_in_none}
use Rattle.sx_grammar.proofs.make.ranks_of.Goals as goal

pub keeps_sorts-requires-clause-before : goal.keeps_sorts-requires-clause-before
keeps_sorts-requires-clause-before c = none_in_none (MixesSorts (parts c.args.from.now)) (parts c.args.from.now).productions
