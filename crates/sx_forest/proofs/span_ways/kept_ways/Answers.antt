use Rattle.std.proofs.Common.{◌≡◌, ◌+◌, ◌-◌, subst, ap, ◌∙◌, arith}
use Rattle.sx_earley.specs.Shown.{plain, tokens_of}
use Rattle.sx_forest.specs.declared.stretch.Stretch.{Stretch}
use Rattle.sx_forest.specs.Tallies.{tally_of, ways_of}
use Rattle.sx_forest.specs.Rows.{tally_at, IsFirstWays}
use Rattle.sx_forest.specs.KeptRows.{symbols_by}
use Rattle.sx_forest.proofs.Wider.{begun, begun_first, first_spread, same_rows}
use Rattle.sx_forest.proofs.Firsts.{by_rows, by_first}
use Rattle.sx_forest.proofs.span_ways.kept_ways.Goals as goal

pub returns : goal.returns
returns c =
    let g = plain c.args.basis.grammar.now in let ts = tokens_of c.args.basis.grammar.now c.args.basis.shown.now in let lists = c.args.basis.table.now.lists.items in
    let kept = c.args.kept.now in let from = c.args.from in let place : Stretch = record { first = from; end = from + 1 } in let t = tally_of c.first_ways.result in
    let last : c.len.result - 1 ≡ symbols_by g kept.head - 1 = (let a = c.len.ensures in let b = kept.rows.ok in let l = c.requires.ready.are.long in omega (arith, a, b, l)) in
    let next : ways_of c.row_of-next.result.now ≡ tally_at kept.rows.items (symbols_by g kept.head - 1) =
    c.row_of-next.ensures ∙ (ap (λ l. tally_at l (c.len.result - 1)) c.deref.ensures.value ∙ ap (tally_at kept.rows.items) last) in
    by_first g ts lists kept.head from kept.to c.requires.along (begun place kept.stretches.items) (begun_first place kept.stretches.items)
    (first_spread g ts lists from kept c.requires.ready) (tally_at kept.rows.items) (by_rows (same_rows g ts lists from kept c.requires.ready)) t
    (subst (λ f. IsFirstWays g ts lists kept.head from f t) next c.first_ways.ensures)
