use Rattle.sx_notation.proofs.Numbers.{named_sort}
use Rattle.sx_notation.proofs.resolving.sort_of.Goals as goal

pub returns-in-Some : goal.returns-in-Some
returns-in-Some c =
    named_sort c.args.grammar.now.parts c.args.spelled.now _ _ c.in-Some.number c.sort_with.result c.facts.ensures.grammar c.in-Named.is c.in-Some.ensures c.sort_with.ensures
