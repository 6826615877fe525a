use Rattle.std.proofs.Common.{◌≡◌, ◌+◌, ◌∷◌, drop, sym, subst, ap, ◌∙◌}
use Rattle.std.proofs.lemmas.List.{at_drop_more, at_drop_all}
use Rattle.sx_earley.specs.Unknown.{HaveStems}
use Rattle.tests_syntax.proofs.known.have_stems.Goals as goal

pub loop-token-preserved : goal.loop-token-preserved
loop-token-preserved c = λ stems rest.
    let ts = c.args.tokens.now in let i = c.loop-token.token-index in let t = c.token-item.result in
    let e : drop i ts ≡ t ∷ drop (i + 1) ts = at_drop_more (λ x. x) ts i t c.loop-token-test.true ∙ ap (λ x. x ∷ drop (i + 1) ts) (sym c.token-item.is) in
    c.loop-token.invariant stems (subst (HaveStems stems) (sym e) (c.has_stem.ensures stems c.if-not-has_stem.false, rest))

pub returns : goal.returns
returns c = λ stems yes.
    c.loop-token.invariant stems (subst (HaveStems stems) (sym (at_drop_all (λ x. x) c.args.tokens.now c.loop-token.token-index c.loop-token-test.false)) tt)
