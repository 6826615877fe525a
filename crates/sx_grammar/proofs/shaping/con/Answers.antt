use Rattle.std.proofs.Common.{◌≡◌, ◌∙◌, ◌+◌, ◌++◌, ap, append_assoc, append-nil, drop, get_or, sym}
use Rattle.std.specs.Prelude.{flat_map}
use Rattle.std.proofs.lemmas.List.{drop_all, drop_more}
use Rattle.sx_grammar.specs.declared.numbered.NumberedSymbol.TheVariants.{Lit}
use Rattle.sx_grammar.specs.Told.{numbered_kids}
use Rattle.sx_grammar.proofs.shaping.con.Goals as goal

pub loop-symbol-preserved : goal.loop-symbol-preserved
loop-symbol-preserved c =
    let f = numbered_kids c.args.sorts.now in
    let xs = c.deref-symbol-items.result.now in
    let n = c.loop-symbol.symbol-index in
    let kids = c.loop-symbol.kids.items in
    let rest = flat_map f (drop (n + 1) xs) in
    ap (λ l. l ++ rest) c.in_ok-put_kid.ensures ∙ append_assoc kids (f (get_or xs n (Lit 0))) rest
    ∙ ap (λ l. kids ++ flat_map f l) (sym (drop_more xs n (Lit 0) c.loop-symbol-test.true)) ∙ c.loop-symbol.invariant

pub returns : goal.returns
returns c =
    let f = numbered_kids c.args.sorts.now in
    let kids = c.loop-symbol.kids.items in
    let whole : kids ≡ flat_map f c.args.production.now.symbols.items = sym (append-nil kids)
    ∙ ap (λ l. kids ++ flat_map f l) (sym (drop_all c.loop-symbol.symbol-index c.deref-symbol-items.result.now c.loop-symbol-test.false))
    ∙ c.loop-symbol.invariant ∙ ap (flat_map f) c.deref-symbol-items.ensures.value in
    (λ i. record { sort = c.sort_with.ensures i; kids = whole i })
