use Rattle.sx_earley.specs.Shown.{plain}
use Rattle.sx_forest.specs.Tallies.{ways_of}
use Rattle.sx_forest.proofs.Summing.{no_rest}
use Rattle.sx_forest.proofs.part_ways.entry_ways.Goals as goal

pub returns-then-is_nothing : goal.returns-then-is_nothing
returns-then-is_nothing c =
    no_rest (plain c.args.grammar.now) c.args.sort c.args.least (ways_of c.args.next.now) c.args.entry _ (c.is_nothing.ensures.0 c.if-is_nothing.true) c.at-rest.ensures
