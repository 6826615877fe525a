use Rattle.sx_earley.specs.Shown.{plain, tokens_of}
use Rattle.sx_earley.proofs.Spanning.{chart_is, reach_is}
use Rattle.sx_earley.proofs.charting.chart_by.Goals as goal

pub returns-clause-spans : goal.returns-clause-spans
returns-clause-spans c = chart_is (plain c.args.grammar.now) (tokens_of c.args.grammar.now c.args.shown.now) c.args.start c.in_ok-found.found c.in_ok-found.ensures.all c.in_ok-spans.spans.items c.in_ok-spans.ensures

pub returns-clause-reach : goal.returns-clause-reach
returns-clause-reach c = reach_is (plain c.args.grammar.now) (tokens_of c.args.grammar.now c.args.shown.now) c.args.start c.in_ok-found.found c.in_ok-found.ensures.all c.reach-reach.result c.reach-reach.ensures
