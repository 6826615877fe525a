use Rattle.std.proofs.Common.{option_map, arith}
use Rattle.sx_grammar.specs.Numbered.{symbol}
use Rattle.sx_earley.specs.Shown.{plain, literal_texts, tokens_of}
use Rattle.sx_forest.specs.Tallies.{ways_of}
use Rattle.sx_forest.proofs.Skipping.{row_is}
use Rattle.sx_forest.proofs.Leading.{row_of_some, row_clipped}
use Rattle.sx_forest.proofs.span_rows.row_before.Goals as goal

pub returns : goal.returns
returns c =
    let g = plain c.args.basis.grammar.now in let ts = tokens_of c.args.basis.grammar.now c.args.basis.shown.now in
    let lists = c.args.basis.table.now.lists.items in let x = option_map (symbol (literal_texts c.args.basis.grammar.now)) c.args.expected in
    let next = ways_of c.args.next.now in let some = c.narrowed-some.result in let places = c.clipped-places.result in
    let made = row_is g ts lists x c.args.to places next _ c.extend.new.row c.clipped-places.ensures.end c.new.ensures c.in_ok-extend.ensures in
    row_of_some g ts lists x c.args.to c.args.stretch some next (ways_of c.extend.new.row) c.narrowed-some.ensures.kept (c.narrowed-some.ensures.none ts)
    (row_clipped g ts lists x c.args.to some places next (ways_of c.extend.new.row) (λ p low. c.clipped-places.ensures.same p (omega arith) low) made)
