use Rattle.std.proofs.Common.{subst}
use Rattle.std.proofs.lemmas.Result.{IfOk-weaker}
use Rattle.sx_grammar.specs.Grammar.{production_of}
use Rattle.sx_earley.specs.Shown.{plain, tokens_of}
use Rattle.sx_forest.specs.Rows.{symbol_count, AreStretches, AreRows, AreSpanRows}
use Rattle.sx_forest.proofs.span_rows.all_rows.Goals as goal

pub returns : goal.returns
returns c =
    let g = plain c.args.basis.grammar.now in let ts = tokens_of c.args.basis.grammar.now c.args.basis.shown.now in
    let lists = c.args.basis.table.now.lists.items in let head = c.args.head in let from = c.args.from in let to = c.args.to in
    let all = c.in_ok-stretches.stretches.items in let count = c.symbol_count-count.result in let number = symbol_count (production_of g head) in
    IfOk-weaker c.last_rows.result (λ v. AreRows g ts lists head number count to c.deref.result.now v.items) (λ v. AreSpanRows g ts lists head from to v.items)
    (λ v are. record {
      stretches = all;
      spread = subst (λ n. AreStretches g ts lists head n from to all) c.symbol_count-count.ensures (c.in_ok-stretches.ensures ts);
      are = subst (λ l. AreRows g ts lists head number number to l v.items) c.deref.ensures.value
          (subst (λ n. AreRows g ts lists head number n to c.deref.result.now v.items) c.symbol_count-count.ensures are);
    })
    c.last_rows.ensures
