use Rattle.std.proofs.Common.{◌+◌, ◌∷◌, [], ◌++◌, ◌∙◌, drop, sym, ap, refl, arith}
use Rattle.std.specs.Prelude.{flat_map}
use Rattle.std.proofs.lemmas.List.{append-nil}
use Rattle.sx_grammar.specs.declared.symbol.Symbol.{Symbol}
use Rattle.sx_grammar.specs.Parts.{symbol_sorts, texts}
use Rattle.sx_grammar.proofs.LoopLaws.{added_more, added_all, no_sorts}
use Rattle.sx_grammar.proofs.standing.add_sorts.Goals as goal
use Rattle.sx_grammar.proofs.standing.add_sorts.Goals.{in-Part+in_ok-put, in_default}

pub loop-symbol-preserved : goal.loop-symbol-preserved
loop-symbol-preserved c =
    let rest = drop (c.loop-symbol.symbol-index + 1) c.args.symbols.now in
    elim c.match-symbol.branch [
      | in-Part+in_ok-put w ↦
          added_more (flat_map symbol_sorts) _ _ _ (w.in-Part.sort ∷ []) c.args.symbols.now c.loop-symbol.symbol-index c.symbol-item.result c.loop-symbol.invariant
          ((λ i. texts (w.out-is i).items) ∙ w.in_ok-put.ensures) (ap (λ (s : Symbol). symbol_sorts s ++ flat_map symbol_sorts rest) (sym w.in-Part.is)) c.loop-symbol-test.true c.symbol-item.is
      | in_default w ↦
          added_more (flat_map symbol_sorts) _ _ _ [] c.args.symbols.now c.loop-symbol.symbol-index c.symbol-item.result c.loop-symbol.invariant
          ((λ i. texts (w.out-is i).items) ∙ sym (append-nil (texts c.loop-symbol.out.items))) (ap (λ l. l ++ flat_map symbol_sorts rest) (no_sorts c.symbol-item.result w.in_default.not-Part)) c.loop-symbol-test.true c.symbol-item.is
    ]

pub returns : goal.returns
returns c =
    added_all (flat_map symbol_sorts) _ _ c.args.symbols.now c.loop-symbol.symbol-index c.loop-symbol.invariant refl (omega (arith, c.loop-symbol-test.false))
