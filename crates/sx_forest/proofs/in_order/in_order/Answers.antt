use Rattle.std.proofs.Common.{◌<◌, length, get_or, arith}
use Rattle.std.proofs.lemmas.List.Elements.{Contains-get_or}
use Rattle.sx_earley.specs.Shown.{plain}
use Rattle.sx_forest.specs.Ordering.{IsOrdered}
use Rattle.sx_grammar.specs.Order.{rank_at}
use Rattle.sx_forest.proofs.Filling.{no_span, only_on, spans_on}
use Rattle.sx_forest.proofs.Sorting.{are_ordered}
use Rattle.sx_forest.proofs.in_order.in_order.Goals as goal

pub ordered-requires : goal.ordered-requires
ordered-requires c =
    let spans = c.args.spans.now in let n = c.loop-span.span-index in
    let low : n < length spans = omega arith in
    c.requires.along (get_or spans n no_span) (Contains-get_or spans n no_span low)

pub loop-span-preserved : goal.loop-span-preserved
loop-span-preserved c =
    let spans = c.args.spans.now in let n = c.loop-span.span-index in
    let low : n < length spans = omega arith in
    record {
      only = only_on spans (IsOrdered (plain c.args.grammar.now) (rank_at c.args.ranks.now)) c.loop-span.list.items c.push.new.self.items c.ordered.result
          c.in_ok-push.ensures.items c.loop-span.invariant.only (rw c.ordered.ensures.span (Contains-get_or spans n no_span low)) c.ordered.ensures.is;
      spans = spans_on n spans c.loop-span.list.items c.push.new.self.items c.ordered.result low c.in_ok-push.ensures.items c.ordered.ensures.span c.loop-span.invariant.spans;
    }

pub returns : goal.returns
returns c =
    are_ordered (plain c.args.grammar.now) (rank_at c.args.ranks.now) c.args.spans.now c.loop-span.span-index c.loop-span.list.items c.sort.new.list.items
    (omega arith) c.requires.once c.sort.ensures.permutation c.in_ok-sort.ensures.sorted c.loop-span.invariant.only c.loop-span.invariant.spans
