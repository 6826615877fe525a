use Rattle.std.proofs.Common.{◌-◌, subst, ap, ◌∙◌}
use Rattle.sx_earley.specs.Shown.{plain, tokens_of}
use Rattle.sx_forest.specs.Rows.{AreStretches, AreRows}
use Rattle.sx_forest.specs.KeptRows.{symbols_by}
use Rattle.sx_forest.proofs.kept.rows_of.Goals as goal

pub returns-clause-ready : goal.returns-clause-ready
returns-clause-ready c =
    let g = plain c.args.basis.grammar.now in let ts = tokens_of c.args.basis.grammar.now c.args.basis.shown.now in
    let lists = c.args.basis.table.now.lists.items in let head = c.args.head in let from = c.args.from in let to = c.args.to in
    let all = c.in_ok-stretches.stretches.items in let rows = c.in_ok-rows.rows.items in let number = symbols_by g head in
    record {
      spread = subst (λ n. AreStretches g ts lists head n from to all) c.symbol_count-count.ensures (c.in_ok-stretches.ensures ts);
      are = subst (λ l. AreRows g ts lists head number (number - 1) to l rows) c.deref.ensures.value
          (subst (λ n. AreRows g ts lists head number n to c.deref.result.now rows) (c.saturating_sub.ensures ∙ ap (λ n. n - 1) c.symbol_count-count.ensures) c.in_ok-rows.ensures);
    }
