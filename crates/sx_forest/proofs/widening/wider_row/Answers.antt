use Rattle.std.proofs.Common.{◌≡◌, ◌-◌, option_map, subst, ap, ◌∙◌, length, arith}
use Rattle.sx_grammar.specs.Numbered.{symbol}
use Rattle.sx_earley.specs.Chart.{next_symbol}
use Rattle.sx_earley.specs.Shown.{plain, literal_texts, tokens_of}
use Rattle.sx_forest.specs.Tallies.{ways_of}
use Rattle.sx_forest.specs.Rows.{tally_at, stretch_at}
use Rattle.sx_forest.specs.KeptRows.{symbols_by, front_of, IsLonger}
use Rattle.sx_forest.proofs.widening.wider_row.Goals as goal

pub returns-clause-more : goal.returns-clause-more
returns-clause-more c = λ n at.
    let g = plain c.args.basis.grammar.now in let ts = tokens_of c.args.basis.grammar.now c.args.basis.shown.now in let lists = c.args.basis.table.now.lists.items in
    let head = c.args.kept.now.head in let wide = c.args.wide.now in let olds = c.args.kept.now.stretches.items in let news = c.args.stretches.now in
    let row = c.args.row in let new = c.lengthen.new.row in let dot = symbols_by g head - n - 1 in
    let many : c.symbol_count.result ≡ symbols_by g head = c.symbol_count.ensures in
    let e : c.symbol_count.result - length wide ≡ dot = omega (arith, at, many) in
    let before : length wide - 1 ≡ n = omega (arith, at) in
    let first : c.stretch_of.result ≡ stretch_at news dot = c.stretch_of.ensures ∙ ap (stretch_at news) e in
    let last : c.stretch_of-2.result ≡ stretch_at olds dot = c.stretch_of-2.ensures ∙ (ap (λ l. stretch_at l (c.symbol_count.result - length wide)) c.deref.ensures.value ∙ ap (stretch_at olds) e) in
    let is : option_map (symbol (literal_texts c.args.basis.grammar.now)) c.symbol_of-expected.result ≡ next_symbol g head dot = c.symbol_of-expected.ensures.is ∙ ap (next_symbol g head) e in
    let next : ways_of c.row_of-next.result.now ≡ tally_at wide n = c.row_of-next.ensures ∙ ap (tally_at wide) before in
    subst (λ x. IsLonger g ts lists x (tally_at wide n) (front_of (stretch_at olds dot) (stretch_at news dot)) row new) is
    (subst (λ f. IsLonger g ts lists (option_map (symbol (literal_texts c.args.basis.grammar.now)) c.symbol_of-expected.result) f (front_of (stretch_at olds dot) (stretch_at news dot)) row new) next
    (subst (λ s. IsLonger g ts lists (option_map (symbol (literal_texts c.args.basis.grammar.now)) c.symbol_of-expected.result) (ways_of c.row_of-next.result.now) (front_of s (stretch_at news dot)) row new) last
    (subst (λ s. IsLonger g ts lists (option_map (symbol (literal_texts c.args.basis.grammar.now)) c.symbol_of-expected.result) (ways_of c.row_of-next.result.now) (front_of c.stretch_of-2.result s) row new) first
    c.in_ok-lengthen.ensures)))
