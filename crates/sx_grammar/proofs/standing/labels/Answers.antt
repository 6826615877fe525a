use Rattle.std.proofs.Common.{List, ◌∷◌, [], map, refl, arith}
use Rattle.sx_grammar.specs.declared.production.Production.{Production}
use Rattle.sx_grammar.specs.Parts.{line}
use Rattle.sx_grammar.specs.Standing.{labels_in}
use Rattle.sx_grammar.proofs.LoopLaws.{added_more, added_all}
use Rattle.sx_grammar.proofs.standing.labels.Goals as goal

pub loop-production-preserved : goal.loop-production-preserved
loop-production-preserved c =
    added_more (λ (ps : List Production). labels_in (map line ps)) _ _ _ (c.production-item.result.label ∷ []) c.args.productions.now c.loop-production.production-index c.production-item.result
    c.loop-production.invariant c.in_ok-put.ensures refl c.loop-production-test.true c.production-item.is

pub returns : goal.returns
returns c =
    added_all (λ (ps : List Production). labels_in (map line ps)) _ _ c.args.productions.now c.loop-production.production-index c.loop-production.invariant refl (omega (arith, c.loop-production-test.false))
