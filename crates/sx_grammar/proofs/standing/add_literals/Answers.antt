use Rattle.std.proofs.Common.{◌+◌, ◌∷◌, [], ◌++◌, ◌∙◌, drop, sym, ap, refl, arith}
use Rattle.std.specs.Prelude.{flat_map}
use Rattle.std.proofs.lemmas.List.{append-nil}
use Rattle.sx_grammar.specs.declared.symbol.Symbol.{Symbol}
use Rattle.sx_grammar.specs.Parts.{symbol_literals, texts}
use Rattle.sx_grammar.proofs.LoopLaws.{added_more, added_all, no_literals}
use Rattle.sx_grammar.proofs.standing.add_literals.Goals as goal
use Rattle.sx_grammar.proofs.standing.add_literals.Goals.{in-Lit+in_ok-put, in_default}

pub loop-symbol-preserved : goal.loop-symbol-preserved
loop-symbol-preserved c =
    let rest = drop (c.loop-symbol.symbol-index + 1) c.args.symbols.now in
    elim c.match-symbol.branch [
      | in-Lit+in_ok-put w ↦
          added_more (flat_map symbol_literals) _ _ _ (w.in-Lit.text ∷ []) c.args.symbols.now c.loop-symbol.symbol-index c.symbol-item.result c.loop-symbol.invariant
          ((λ i. texts (w.out-is i).items) ∙ w.in_ok-put.ensures) (ap (λ (s : Symbol). symbol_literals s ++ flat_map symbol_literals rest) (sym w.in-Lit.is)) c.loop-symbol-test.true c.symbol-item.is
      | in_default w ↦
          added_more (flat_map symbol_literals) _ _ _ [] c.args.symbols.now c.loop-symbol.symbol-index c.symbol-item.result c.loop-symbol.invariant
          ((λ i. texts (w.out-is i).items) ∙ sym (append-nil (texts c.loop-symbol.out.items))) (ap (λ l. l ++ flat_map symbol_literals rest) (no_literals c.symbol-item.result w.in_default.not-Lit)) c.loop-symbol-test.true c.symbol-item.is
    ]

pub returns : goal.returns
returns c =
    added_all (flat_map symbol_literals) _ _ c.args.symbols.now c.loop-symbol.symbol-index c.loop-symbol.invariant refl (omega (arith, c.loop-symbol-test.false))
