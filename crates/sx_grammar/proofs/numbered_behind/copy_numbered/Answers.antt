use Rattle.std.proofs.Common.{◌∙◌, map, ap, arith}
use Rattle.std.proofs.lemmas.List.{take_all}
use Rattle.sx_grammar.specs.Numbered.{bare}
use Rattle.sx_grammar.proofs.LoopLaws.{copied_more}
use Rattle.sx_grammar.proofs.numbered_behind.copy_numbered.Goals as goal

pub loop-i-preserved : goal.loop-i-preserved
loop-i-preserved c =
    ap (map bare) c.in_ok-push.ensures.items
    ∙ copied_more bare c.loop-i.copies.items c.args.productions.now c.loop-i.i c.in_ok-copy.field-0 c.index-productions-i.result c.loop-i.invariant c.loop-i-test.true c.index-productions-i.is c.in_ok-copy.ensures

pub returns : goal.returns
returns c = c.loop-i.invariant ∙ ap (map bare) (take_all c.loop-i.i c.args.productions.now (omega (arith, c.loop-i-test.false)))
