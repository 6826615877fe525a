use Rattle.std.proofs.Common.{◌∷◌, [], ◌++◌, ◌∙◌, take, sym, ap, arith}
use Rattle.std.proofs.lemmas.List.{take_more, take_all}
use Rattle.sx_grammar.proofs.production.copy_symbols.Goals as goal

pub loop-i-preserved : goal.loop-i-preserved
loop-i-preserved c =
    let xs = c.args.symbols.now in
    let i = c.loop-i.i in
    c.in_ok-push.ensures.items ∙ (λ k. c.loop-i.invariant k ++ c.in_ok-copy.ensures k ∷ []) ∙ ap (λ z. take i xs ++ z ∷ []) c.index-symbols-i.is
    ∙ sym (take_more xs i c.index-symbols-i.result c.loop-i-test.true)

pub returns : goal.returns
returns c = c.loop-i.invariant ∙ take_all c.loop-i.i c.args.symbols.now (omega (arith, c.loop-i-test.false))
