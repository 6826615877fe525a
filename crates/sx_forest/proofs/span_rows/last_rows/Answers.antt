use Rattle.std.proofs.Common.{◌≡◌, ◌-◌, subst, ap, ◌∙◌, arith}
use Rattle.sx_earley.specs.Chart.{next_symbol}
use Rattle.sx_earley.specs.Shown.{plain, tokens_of}
use Rattle.sx_forest.specs.Tallies.{ways_of}
use Rattle.sx_forest.specs.Rows.{tally_at, stretch_at, IsStretchRow, AreRows}
use Rattle.sx_forest.proofs.Filling.{rows_on}
use Rattle.sx_forest.proofs.span_rows.last_rows.Goals as goal

pub loop-done-preserved : goal.loop-done-preserved
loop-done-preserved c =
    let g = plain c.args.basis.grammar.now in let ts = tokens_of c.args.basis.grammar.now c.args.basis.shown.now in
    let lists = c.args.basis.table.now.lists.items in let count = c.symbol_count-count.result in let n = c.loop-done.done in
    let to = c.args.to in let all = c.args.stretches.now in
    let row = ways_of c.in_ok-row.row in let next = ways_of c.row_of-next.result.now in let dot = count - n - 1 in
    let after = c.row_of-next.ensures ∙ ap (λ rs. tally_at rs n) c.deref.ensures.value in
    let made : IsStretchRow g ts lists (next_symbol g c.args.head dot) to (stretch_at all dot) next row =
    subst (λ s. IsStretchRow g ts lists (next_symbol g c.args.head dot) to s next row) c.stretch_of-stretch.ensures
    (subst (λ o. IsStretchRow g ts lists o to c.stretch_of-stretch.result next row) c.symbol_of-expected.ensures.is c.in_ok-row.ensures) in
    rows_on g ts lists c.args.head count n to all c.loop-done.rows.items c.push-in-loop-done.new.self.items c.in_ok-row.row
    c.loop-done.invariant c.in_ok-push-2.ensures.items
    (subst (λ l. IsStretchRow g ts lists (next_symbol g c.args.head dot) to (stretch_at all dot) l row) after made)

pub returns : goal.returns
returns c =
    let g = plain c.args.basis.grammar.now in let ts = tokens_of c.args.basis.grammar.now c.args.basis.shown.now in
    let lists = c.args.basis.table.now.lists.items in let rows = c.loop-done.rows.items in
    let end : c.loop-done.done ≡ c.args.number = (let a = c.loop-done-test.false in omega arith) in
    let are : AreRows g ts lists c.args.head c.symbol_count-count.result c.args.number c.args.to c.args.stretches.now rows =
    subst (λ n. AreRows g ts lists c.args.head c.symbol_count-count.result n c.args.to c.args.stretches.now rows) end c.loop-done.invariant in
    subst (λ n. AreRows g ts lists c.args.head n c.args.number c.args.to c.args.stretches.now rows) c.symbol_count-count.ensures are
