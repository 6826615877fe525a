use Rattle.sx_earley.specs.Shown.{plain, tokens_of}
use Rattle.sx_forest.proofs.Wider.{all_kept_put, on_any}
use Rattle.sx_forest.proofs.full.add_span.Goals as goal

pub returns-clause-kept : goal.returns-clause-kept
returns-clause-kept c =
    on_any c.put.result (all_kept_put (plain c.args.grammar.now) (tokens_of c.args.grammar.now c.args.shown.now) c.args.table.now.lists.items c.put.new.self.lists.items c.args.span.from
    c.span_ways.new.kept.items c.leave.new.kept.items c.put.ensures.others c.leave.ensures c.in_ok-ways.ensures.kept)
