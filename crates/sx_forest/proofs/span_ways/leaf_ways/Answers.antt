use Rattle.sx_earley.specs.Shown.{plain, tokens_of}
use Rattle.sx_forest.specs.Tallies.{tally_of, ways_of}
use Rattle.sx_forest.proofs.Firsts.{by_leaf}
use Rattle.sx_forest.proofs.span_ways.leaf_ways.Goals as goal

pub returns : goal.returns
returns c =
    by_leaf (plain c.args.basis.grammar.now) (tokens_of c.args.basis.grammar.now c.args.basis.shown.now) c.args.basis.table.now.lists.items c.args.head c.args.from c.args.to c.requires.along c.requires.leaf
    (ways_of c.last_row-row.result) c.last_row-row.ensures (tally_of c.first_ways.result) c.first_ways.ensures
