use Rattle.std.proofs.Common.{List, ◌≡◌, ◌+◌, ◌≤◌, length, get_or, subst, arith, sym}
use Rattle.std.proofs.lemmas.List.{length-map}
use Rattle.std.proofs.lemmas.Option.{slice_get-get_or}
use Rattle.sx_grammar.specs.Items.{Span}
use Rattle.sx_grammar.specs.Parts.{numbered_line, names}
use Rattle.sx_grammar.specs.Tables.{GrammarData}
use Rattle.sx_earley.specs.declared.shown.Shown.{Shown}
use Rattle.sx_earley.specs.Completed.{head_of}
use Rattle.sx_earley.specs.Shown.{plain, literal_texts, token_of, tokens_of}
use Rattle.sx_forest.specs.declared.ordered.Ordered.{Ordered}
use Rattle.sx_forest.specs.Useful.{AreUseful}
use Rattle.sx_forest.specs.Table.{IsFirstTable}
use Rattle.sx_forest.specs.Ordering.{AreOrdered}
use Rattle.sx_grammar.specs.Order.{rank_at}
use Rattle.sx_forest.proofs.Rows.{span_forward, span_within}
use Rattle.sx_forest.proofs.Tabling.{no_ordered, useful_forward, span_at, so_far_on, so_far_first, full_is}
use Rattle.sx_forest.proofs.Wider.{none_kept}
use Rattle.sx_forest.proofs.full.fill.Goals as goal
use Rattle.sx_forest.proofs.full.fill.Goals.{After-add_span-arg-1}

-- there are as many tokens as are shown
shown_long : (d : GrammarData) (ss : List Shown) → length (tokens_of d ss) ≡ length ss
shown_long d ss = length-map ss (token_of (literal_texts d))

pub in_order-requires-clause-along : goal.in_order-requires-clause-along
in_order-requires-clause-along c = useful_forward (plain c.args.grammar.now) (tokens_of c.args.grammar.now c.args.shown.now) c.args._start c.deref.result.now (subst (AreUseful (plain c.args.grammar.now) (tokens_of c.args.grammar.now c.args.shown.now) c.args._start) (sym c.deref.ensures.value) c.in_ok-useful.ensures.are)

pub loop-item-init : goal.loop-item-init
loop-item-init c =
    let gr = plain c.args.grammar.now in let ts = tokens_of c.args.grammar.now c.args.shown.now in
    let long = shown_long c.args.grammar.now c.args.shown.now in
    record {
      so = so_far_first gr ts c.args._start (rank_at c.args.ranks.now) c.deref.result.now (subst (AreUseful (plain c.args.grammar.now) (tokens_of c.args.grammar.now c.args.shown.now) c.args._start) (sym c.deref.ensures.value) c.in_ok-useful.ensures.are) c.deref-item-items.result.now
          (subst (λ l. AreOrdered gr (rank_at c.args.ranks.now) c.deref.result.now l) (sym c.deref-item-items.ensures.value) c.in_ok-ordered.ensures)
          c.in_ok-table.table.lists.items
          (subst (λ n. IsFirstTable ts (n + 1) c.in_ok-table.table.lists.items) (sym long) (c.in_ok-table.ensures c.args.grammar.now));
      kept = none_kept gr ts c.in_ok-table.table.lists.items c.new-kept.result.items c.new-kept.ensures.items;
    }

-- the item at hand
abbrev item_here : After-add_span-arg-1 → Ordered
item_here c = get_or c.deref-item-items.result.now c.loop-item.item-index no_ordered

-- the span at hand is complete
span_here : (c : After-add_span-arg-1) → Span (plain c.args.grammar.now) (tokens_of c.args.grammar.now c.args.shown.now) c.args._start (head_of (item_here c).span.of) (item_here c).span.from (item_here c).span.to
span_here c =
    let gr = plain c.args.grammar.now in let ts = tokens_of c.args.grammar.now c.args.shown.now in
    span_at gr ts c.args._start (rank_at c.args.ranks.now) c.deref.result.now (subst (AreUseful (plain c.args.grammar.now) (tokens_of c.args.grammar.now c.args.shown.now) c.args._start) (sym c.deref.ensures.value) c.in_ok-useful.ensures.are) c.deref-item-items.result.now
    (subst (λ l. AreOrdered gr (rank_at c.args.ranks.now) c.deref.result.now l) (sym c.deref-item-items.ensures.value) c.in_ok-ordered.ensures)
    c.loop-item.item-index (item_here c)
    (slice_get-get_or c.deref-item-items.result.now c.loop-item.item-index no_ordered c.loop-item-test.true)

-- it ends within the tokens
within_here : (c : After-add_span-arg-1) → (item_here c).span.to ≤ length c.args.shown.now
within_here c =
    let gr = plain c.args.grammar.now in let ts = tokens_of c.args.grammar.now c.args.shown.now in
    let long = shown_long c.args.grammar.now c.args.shown.now in
    let h = span_within gr ts c.args._start (head_of (item_here c).span.of) (item_here c).span.from (item_here c).span.to (span_here c) in omega (arith, long, h)

-- and goes forward
along_here : (c : After-add_span-arg-1) → (item_here c).span.from ≤ (item_here c).span.to
along_here c =
    let gr = plain c.args.grammar.now in let ts = tokens_of c.args.grammar.now c.args.shown.now in
    span_forward gr ts c.args._start (head_of (item_here c).span.of) (item_here c).span.from (item_here c).span.to (span_here c)

pub add_span-requires-clause-short : goal.add_span-requires-clause-short
add_span-requires-clause-short c = let h = within_here c in let s = c.requires.short in omega arith

pub add_span-requires-clause-along : goal.add_span-requires-clause-along
add_span-requires-clause-along c = along_here c

pub add_span-requires-clause-inside : goal.add_span-requires-clause-inside
add_span-requires-clause-inside c =
    let h = within_here c in let a = along_here c in let l = c.loop-item.invariant.so.long in
    let long = shown_long c.args.grammar.now c.args.shown.now in
    omega arith

pub add_span-requires-clause-sorted : goal.add_span-requires-clause-sorted
add_span-requires-clause-sorted c = c.loop-item.invariant.so.table.sorted

pub loop-item-preserved : goal.loop-item-preserved
loop-item-preserved c =
    let gr = plain c.args.grammar.now in let ts = tokens_of c.args.grammar.now c.args.shown.now in
    let long = shown_long c.args.grammar.now c.args.shown.now in
    let many : length gr.productions ≡ length c.args.grammar.now.parts.productions = length-map c.args.grammar.now.parts.productions (numbered_line (names c.args.grammar.now.parts)) in
    let n = c.loop-item.item-index in let s = c.requires.short in
    record {
      so = so_far_on gr ts c.args._start (rank_at c.args.ranks.now) c.deref.result.now (subst (AreUseful (plain c.args.grammar.now) (tokens_of c.args.grammar.now c.args.shown.now) c.args._start) (sym c.deref.ensures.value) c.in_ok-useful.ensures.are) c.deref-item-items.result.now
          (subst (λ l. AreOrdered gr (rank_at c.args.ranks.now) c.deref.result.now l) (sym c.deref-item-items.ensures.value) c.in_ok-ordered.ensures)
          c.loop-item.table.lists.items c.add_span.new.table.lists.items n (get_or c.deref-item-items.result.now n no_ordered) c.facts.ensures.levels c.requires.ranking
          (omega (arith, many, c.facts.ensures.limits.productions))
          (omega arith) (slice_get-get_or c.deref-item-items.result.now n no_ordered c.loop-item-test.true) c.loop-item.invariant.so c.in_ok-add_span.ensures.added;
      kept = c.in_ok-add_span.ensures.kept;
    }

pub returns : goal.returns
returns c =
    let gr = plain c.args.grammar.now in let ts = tokens_of c.args.grammar.now c.args.shown.now in
    full_is gr ts c.args._start (rank_at c.args.ranks.now) c.deref.result.now (subst (AreUseful (plain c.args.grammar.now) (tokens_of c.args.grammar.now c.args.shown.now) c.args._start) (sym c.deref.ensures.value) c.in_ok-useful.ensures.are) c.deref-item-items.result.now
    (subst (λ l. AreOrdered gr (rank_at c.args.ranks.now) c.deref.result.now l) (sym c.deref-item-items.ensures.value) c.in_ok-ordered.ensures)
    c.loop-item.table.lists.items c.loop-item.item-index (omega arith) c.loop-item.invariant.so
