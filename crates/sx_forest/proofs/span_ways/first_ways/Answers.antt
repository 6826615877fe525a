use Rattle.std.proofs.Common.{◌≡◌, option_map, Some, None, subst, sym, ap, ◌∙◌}
use Rattle.sx_grammar.specs.Numbered.{symbol}
use Rattle.sx_earley.specs.Chart.{next_symbol}
use Rattle.sx_earley.specs.Shown.{plain, literal_texts, tokens_of}
use Rattle.sx_forest.specs.Tallies.{tally_of, ways_of}
use Rattle.sx_forest.specs.Rows.{entries_at, IsFirstRow, IsPlaceRow}
use Rattle.sx_forest.proofs.span_ways.first_ways.Goals as goal

pub returns-in-None : goal.returns-in-None
returns-in-None c =
    let g = plain c.args.basis.grammar.now in let ts = tokens_of c.args.basis.grammar.now c.args.basis.shown.now in let from = c.args.from in
    let entries = entries_at c.args.basis.table.now.lists.items from in let next = ways_of c.args.next.now in let u = tally_of c.at.result in
    let none : next_symbol g c.args.head 0 ≡ None = sym c.symbol_of.ensures.is ∙ ap (option_map (symbol (literal_texts c.args.basis.grammar.now))) c.in-None.is in
    (u, subst (λ o. IsFirstRow g ts entries o from next u) (sym none) c.at.ensures, c.inside.ensures)

pub returns-in-Some : goal.returns-in-Some
returns-in-Some c =
    let g = plain c.args.basis.grammar.now in let ts = tokens_of c.args.basis.grammar.now c.args.basis.shown.now in let from = c.args.from in
    let entries = entries_at c.args.basis.table.now.lists.items from in let next = ways_of c.args.next.now in let u = tally_of c.symbol_ways-ways.result in
    let x = symbol (literal_texts c.args.basis.grammar.now) c.in-Some.expected in
    let some : next_symbol g c.args.head 0 ≡ Some x = sym c.symbol_of.ensures.is ∙ ap (option_map (symbol (literal_texts c.args.basis.grammar.now))) c.in-Some.is in
    let there : IsPlaceRow g ts entries x from next u = subst (λ l. IsPlaceRow g ts l x from next u) c.from-entries.ensures c.symbol_ways-ways.ensures in
    (u, subst (λ o. IsFirstRow g ts entries o from next u) (sym some) there, c.inside-in-Some.ensures)
