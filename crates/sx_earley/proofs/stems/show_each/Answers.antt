use Rattle.std.proofs.Common.{arith}
use Rattle.sx_earley.specs.Shown.{literal_texts}
use Rattle.sx_earley.proofs.StemLaws.{shown_more}
use Rattle.sx_earley.proofs.stems.show_each.Goals as goal

pub loop-i-preserved : goal.loop-i-preserved
loop-i-preserved c = λ stems is.
    shown_more (literal_texts c.args.grammar.now) stems c.args.tokens.now c.loop-i.i c.index-tokens-i.result c.show.result c.loop-i.shown.items c.push.new.self.items (omega arith) c.index-tokens-i.is
    (c.show.ensures stems is) c.in_ok-push.ensures.items (c.loop-i.invariant stems is)
