use Rattle.std.proofs.Common.{take, subst, arith}
use Rattle.std.proofs.lemmas.List.{take_all}
use Rattle.sx_earley.specs.Shown.{plain}
use Rattle.sx_earley.specs.Completed.{AreSpans}
use Rattle.sx_earley.proofs.Closing.{empty_front}
use Rattle.sx_earley.proofs.Spanning.{no_spans, spans_on}
use Rattle.sx_earley.proofs.spanned.complete_spans.Goals as goal

pub loop-place-init : goal.loop-place-init
loop-place-init c =
    let keys = c.args.found.now in
    no_spans (plain c.args.grammar.now) (take 0 keys) c.new-spans.result.items (empty_front keys) c.new-spans.ensures.items

pub loop-place-preserved : goal.loop-place-preserved
loop-place-preserved c =
    let keys = c.args.found.now in
    spans_on (plain c.args.grammar.now) keys c.loop-place.place c.item_within-item.result c.loop-place.spans.items c.add_span.new.spans.items c.len-count.ensures.once
    c.item_within-item.ensures c.loop-place.invariant c.in_ok-add_span.ensures

pub returns : goal.returns
returns c =
    let keys = c.args.found.now in
    subst (λ l. AreSpans (plain c.args.grammar.now) l c.loop-place.spans.items) (take_all c.loop-place.place keys (omega arith)) c.loop-place.invariant
