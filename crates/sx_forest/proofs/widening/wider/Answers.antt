use Rattle.std.proofs.Common.{◌≡◌, ◌+◌, ◌-◌, ◌++◌, ◌∷◌, [], suc, refl, subst, sym, ap, ◌∙◌, arith}
use Rattle.sx_earley.specs.Chart.{next_symbol}
use Rattle.sx_earley.specs.Shown.{plain, tokens_of}
use Rattle.sx_forest.specs.declared.stretch.Stretch.{Stretch}
use Rattle.sx_forest.specs.Rows.{stretch_at, Spreads}
use Rattle.sx_forest.specs.KeptRows.{front_of, IsStretchJoined}
use Rattle.sx_forest.proofs.Wider.{AreWiderTo, wider_first, wider_to_on}
use Rattle.sx_forest.proofs.widening.wider.Goals as goal

pub loop-dot-init : goal.loop-dot-init
loop-dot-init c =
    let here : Stretch = record { first = c.args.from; end = c.args.from + 1 } in
    wider_first (plain c.args.basis.grammar.now) (tokens_of c.args.basis.grammar.now c.args.basis.shown.now) c.args.basis.table.now.lists.items c.args.kept.now.head
    c.args.from c.args.kept.now.to c.args.kept.now.stretches.items c.push.new.self.items here refl (c.in_ok-push.ensures.items ∙ ap (λ l. l ++ here ∷ []) c.new-all.ensures.items)

pub loop-dot-preserved : goal.loop-dot-preserved
loop-dot-preserved c =
    let g = plain c.args.basis.grammar.now in let ts = tokens_of c.args.basis.grammar.now c.args.basis.shown.now in let lists = c.args.basis.table.now.lists.items in
    let kept = c.args.kept.now in let olds = kept.stretches.items in let from = c.args.from in let all = c.loop-dot.all.items in let more = c.push-in-Some.new.self.items in
    let new = c.loop-dot.new in let dot = c.loop-dot.dot in let n = dot - 1 in let own = c.in-Some.own in let ahead = c.loop-dot.invariant.ahead in
    let up : suc n ≡ dot = omega (arith, ahead) in
    let end = c.len-dot-end.ensures in let filled = kept.rows.ok in
    let old : c.stretch_of-old.result ≡ stretch_at olds (suc n) = c.stretch_of-old.ensures ∙ (ap (λ l. stretch_at l dot) c.deref.ensures.value ∙ ap (stretch_at olds) (sym up)) in
    let so : AreWiderTo g ts lists kept.head from kept.to olds (suc n) all new = subst (λ d. AreWiderTo g ts lists kept.head from kept.to olds d all new) (sym up) c.loop-dot.invariant in
    let spread : Spreads g ts lists (next_symbol g kept.head n) kept.to new c.spread-reached.result =
    subst (λ x. Spreads g ts lists x kept.to new c.spread-reached.result) c.symbol_of-expected.ensures.is (c.spread-reached.ensures ts) in
    let joined : IsStretchJoined (stretch_at olds (suc n)) c.clipped.result own = subst (λ s. IsStretchJoined s c.clipped.result own) old c.in-Some.ensures in
    let on = wider_to_on g ts lists kept c.requires.kept from n (omega (arith, up, end, filled, c.loop-dot-test.true, c.requires.kept.are.long, ahead)) all more new c.spread-reached.result c.clipped.result own so spread
    c.clipped.ensures.end (λ p low is. (c.clipped.ensures.same p (omega arith) low).0 is) joined c.in_ok-push-in-Some.ensures.items in
    subst (λ d. AreWiderTo g ts lists kept.head from kept.to olds (d + 1) more (front_of c.stretch_of-old.result own)) up
    (subst (λ s. AreWiderTo g ts lists kept.head from kept.to olds (suc n + 1) more (front_of s own)) (sym old) on)

pub returns : goal.returns
returns c =
    let are = c.loop-dot.invariant.are in
    let end = c.len-dot-end.ensures in let filled = c.args.kept.now.rows.ok in
    let long = c.requires.kept.are.long in let done = c.loop-dot-test.false in
    record {
      wider = λ dot some low. are.wider dot some (omega (arith, end, filled, long, done, low));
      spread = record {
        first = are.spread.first;
        each = λ dot low. are.spread.each dot (omega (arith, end, filled, long, done, low));
      };
    }
