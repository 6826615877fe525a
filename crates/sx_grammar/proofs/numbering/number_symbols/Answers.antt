use Rattle.std.proofs.Common.{refl, length, subst, sym, ap, ◌∙◌, arith}
use Rattle.std.proofs.lemmas.List.{take_all}
use Rattle.std.proofs.lemmas.Option.{slice_get_read}
use Rattle.sx_grammar.specs.Parts.{numbered_symbol}
use Rattle.sx_grammar.specs.Numbered.{symbol}
use Rattle.sx_grammar.specs.Known.{LiteralsAreBelow}
use Rattle.std.proofs.Common.{◌≡◌, map, take, ◌+◌}
use Rattle.sx_grammar.proofs.NumberLaws.{item_in, mapped_push, below_push}
use Rattle.sx_grammar.proofs.numbering.number_symbols.Goals as goal

pub loop-symbol-preserved : goal.loop-symbol-preserved
loop-symbol-preserved c =
    let xs = c.args.symbols.now in
    let n = c.loop-symbol.symbol-index in
    let at = slice_get_read xs (length xs) n c.symbol-item.result refl c.loop-symbol-test.true c.symbol-item.is in
    let texts = c.args.literals.now in
    record {
      same = subst (λ l. map (symbol texts) l ≡ map (numbered_symbol c.args.sorts.now) (take (n + 1) xs)) (sym c.in_ok-push.ensures.items)
          (mapped_push (symbol texts) (numbered_symbol c.args.sorts.now) c.loop-symbol.out.items xs n c.number_symbol.result c.symbol-item.result c.loop-symbol.invariant.same at c.number_symbol.ensures.same);
      below = subst (LiteralsAreBelow (length texts)) (sym c.in_ok-push.ensures.items) (below_push (length texts) c.loop-symbol.out.items c.number_symbol.result c.loop-symbol.invariant.below c.number_symbol.ensures.below);
    }

pub number_symbol-requires-clause-known : goal.number_symbol-requires-clause-known
number_symbol-requires-clause-known c =
    c.requires.known c.symbol-item.result (item_in c.args.symbols.now c.loop-symbol.symbol-index c.symbol-item.result c.loop-symbol-test.true c.symbol-item.is)

pub returns-clause-same : goal.returns-clause-same
returns-clause-same c =
    c.loop-symbol.invariant.same ∙ ap (map (numbered_symbol c.args.sorts.now)) (take_all c.loop-symbol.symbol-index c.args.symbols.now (omega (arith, c.loop-symbol-test.false)))

pub returns-clause-below : goal.returns-clause-below
returns-clause-below c = c.loop-symbol.invariant.below
