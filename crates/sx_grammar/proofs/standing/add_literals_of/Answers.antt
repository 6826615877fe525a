use Rattle.std.proofs.Common.{◌≡◌, ◌++◌, List, map, refl, subst, arith}
use Rattle.std.specs.Prelude.{flat_map}
use Rattle.sx_grammar.specs.declared.symbol.Symbol.{Symbol}
use Rattle.sx_grammar.specs.declared.production.Production.{Production}
use Rattle.sx_grammar.specs.Parts.{Line, line, symbol_literals, texts}
use Rattle.sx_grammar.proofs.LoopLaws.{added_more, added_all}
use Rattle.sx_grammar.proofs.standing.add_literals_of.Goals as goal

pub loop-production-preserved : goal.loop-production-preserved
loop-production-preserved c =
    added_more (λ (ps : List Production). flat_map (λ (r : Line). flat_map symbol_literals r.symbols) (map line ps)) _ _ _ (flat_map symbol_literals c.production-item.result.symbols.items) c.args.productions.now c.loop-production.production-index c.production-item.result
    c.loop-production.invariant (subst (λ (ss : List Symbol). texts c.add_literals.new.out.items ≡ texts c.loop-production.out.items ++ flat_map symbol_literals ss) c.deref.ensures.value c.in_ok-add_literals.ensures) refl c.loop-production-test.true c.production-item.is

pub returns : goal.returns
returns c =
    added_all (λ (ps : List Production). flat_map (λ (r : Line). flat_map symbol_literals r.symbols) (map line ps)) _ _ c.args.productions.now c.loop-production.production-index c.loop-production.invariant refl (omega (arith, c.loop-production-test.false))
