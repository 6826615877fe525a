use Rattle.std.proofs.Common.{◌≡◌, ◌+◌, ◌-◌, suc, subst, sym, ap, ◌∙◌, arith}
use Rattle.sx_earley.specs.Chart.{next_symbol}
use Rattle.sx_earley.specs.Shown.{plain}
use Rattle.sx_forest.specs.Rows.{stretch_at, Spreads, AreStretches}
use Rattle.sx_forest.proofs.Filling.{stretches_on}
use Rattle.sx_forest.proofs.Pushing.{longer_pushed}
use Rattle.sx_forest.proofs.spreading.stretches.Goals as goal

pub loop-dot-preserved : goal.loop-dot-preserved
loop-dot-preserved c =
    let g = plain c.args.basis.grammar.now in
    let lists = c.args.basis.table.now.lists.items in let head = c.args.head in let old = c.loop-dot.all.items in let new = c.push-in-loop-dot.new.self.items in
    let n = c.loop-dot.dot - 1 in let ahead = c.loop-dot.invariant.ahead in
    let up : suc n ≡ c.loop-dot.dot = omega arith in
    let before = c.stretch_of-before.ensures ∙ ap (λ l. stretch_at l n) c.deref.ensures.value in
    let long = c.loop-dot.invariant.long in
    record {
      ahead = omega arith;
      long = omega (arith, longer_pushed old new c.spread.result c.in_ok-push-2.ensures.items, long);
      are = λ ts.
          let are : AreStretches g ts lists head (suc n) c.args.from c.args.to old =
          subst (λ m. AreStretches g ts lists head m c.args.from c.args.to old) (sym up) (c.loop-dot.invariant.are ts) in
          let made : Spreads g ts lists (next_symbol g head n) c.args.to (stretch_at old n) c.spread.result =
          subst (λ s. Spreads g ts lists (next_symbol g head n) c.args.to s c.spread.result) before
          (subst (λ o. Spreads g ts lists o c.args.to c.stretch_of-before.result c.spread.result) c.symbol_of-expected.ensures.is (c.spread.ensures ts)) in
          subst (λ m. AreStretches g ts lists head (m + 1) c.args.from c.args.to new) up
          (stretches_on g ts lists head n c.args.from c.args.to old new c.spread.result (omega (arith, long, up)) are c.in_ok-push-2.ensures.items made);
    }

pub returns : goal.returns
returns c = λ ts.
    let are = c.loop-dot.invariant.are ts in let end = c.loop-dot-test.false in
    record {
      first = are.first;
      each = λ dot low. are.each dot (omega arith);
    }
