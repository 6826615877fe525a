use Rattle.std.proofs.Common.{◌-◌, IfSome, subst}
use Rattle.sx_earley.specs.Shown.{plain, tokens_of}
use Rattle.sx_forest.specs.Rows.{AreRows}
use Rattle.sx_forest.specs.KeptRows.{symbols_by, AreWider}
use Rattle.sx_forest.proofs.widening.widen.Goals as goal

pub returns-in_ok-kept-in-Some-clause-ready : goal.returns-in_ok-kept-in-Some-clause-ready
returns-in_ok-kept-in-Some-clause-ready c =
    let g = plain c.args.basis.grammar.now in let ts = tokens_of c.args.basis.grammar.now c.args.basis.shown.now in let lists = c.args.basis.table.now.lists.items in
    let kept = c.args.kept.now in let count = symbols_by g kept.head in
    let wider : AreWider g ts lists kept.head count c.args.from kept.to kept.stretches.items c.in-Some.stretches.items =
    subst (λ o. IfSome o (λ v. AreWider g ts lists kept.head count c.args.from kept.to kept.stretches.items v.items)) c.in-Some.is c.in_ok-wider.ensures in
    record {
      spread = wider.spread;
      are = subst (λ l. AreRows g ts lists kept.head count (count - 1) kept.to l c.in_ok-kept-in-Some.field-0.items) c.deref.ensures.value c.in_ok-kept-in-Some.ensures;
    }
