use Rattle.std.proofs.Common.{subst}
use Rattle.sx_earley.specs.Shown.{plain, tokens_of}
use Rattle.sx_forest.specs.Tallies.{tally_of}
use Rattle.sx_forest.specs.Rows.{IsSpanWays}
use Rattle.sx_forest.proofs.Wider.{ready_kept}
use Rattle.sx_forest.proofs.span_ways.wider_ways.Goals as goal

pub returns-clause-kept : goal.returns-clause-kept
returns-clause-kept c =
    ready_kept (plain c.args.basis.grammar.now) (tokens_of c.args.basis.grammar.now c.args.basis.shown.now) c.args.basis.table.now.lists.items c.args.from c.widen.new.kept c.in_ok-widen.ensures.ready

pub returns-clause-ways : goal.returns-clause-ways
returns-clause-ways c =
    let g = plain c.args.basis.grammar.now in let ts = tokens_of c.args.basis.grammar.now c.args.basis.shown.now in let lists = c.args.basis.table.now.lists.items in
    let t = tally_of c.kept_ways-ways.result in
    subst (λ h. IsSpanWays g ts lists h c.args.from c.args.kept.now.to t) c.in_ok-widen.ensures.same.0
    (subst (λ e. IsSpanWays g ts lists c.widen.new.kept.head c.args.from e t) c.in_ok-widen.ensures.same.1 c.kept_ways-ways.ensures)
