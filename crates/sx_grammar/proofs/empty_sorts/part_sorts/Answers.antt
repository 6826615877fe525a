use Rattle.std.proofs.Common.{get_or, sym, subst, ap, ◌∙◌, ◌++◌, ◌∷◌, [], take, ◌+◌}
use Rattle.std.proofs.lemmas.List.{take_more}
use Rattle.std.proofs.lemmas.Option.{slice_get-get_or}
use Rattle.sx_grammar.specs.declared.numbered.NumberedSymbol.TheVariants.{Lit}
use Rattle.sx_grammar.specs.Cycles.{ArePartsOf}
use Rattle.sx_grammar.proofs.Ranking.{parts_each, parts_push}
use Rattle.sx_grammar.proofs.empty_sorts.part_sorts.Goals as goal

pub returns-in_default : goal.returns-in_default
returns-in_default c = λ sorts are.
    let xs = c.args.symbols.now in
    let n = c.loop-symbol.symbol-index in
    let part = parts_each xs sorts n (get_or xs n (Lit 0)) are (slice_get-get_or xs n (Lit 0) c.loop-symbol-test.true) in
    c.in_default.not-Part part.0 part.1 part.2

pub loop-symbol-preserved : goal.loop-symbol-preserved
loop-symbol-preserved c =
    let xs = c.args.symbols.now in
    let n = c.loop-symbol.symbol-index in
    let more = parts_push (take n xs) c.loop-symbol.sorts.items c.in-Part.sort c.in-Part.least c.loop-symbol.invariant in
    subst (ArePartsOf (take (n + 1) xs)) (sym c.in_ok-push.ensures.items)
    (subst (λ l. ArePartsOf l (c.loop-symbol.sorts.items ++ c.in-Part.sort ∷ [])) (sym (take_more xs n (Lit 0) c.loop-symbol-test.true ∙ ap (λ s. take n xs ++ s ∷ []) c.in-Part.is)) more)
