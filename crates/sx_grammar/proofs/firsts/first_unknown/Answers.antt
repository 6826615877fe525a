use Rattle.std.proofs.Common.{arith, sym, ◌∙◌}
use Rattle.std.proofs.lemmas.Bool.{false≢true}
use Rattle.sx_grammar.specs.Parts.{texts}
use Rattle.sx_grammar.specs.Made.{IsUnknownSort}
use Rattle.sx_grammar.proofs.FirstLaws.{text_at, texts_length, none_more, none_all, first_here}
use Rattle.sx_grammar.proofs.firsts.first_unknown.Goals as goal

pub loop-name-preserved : goal.loop-name-preserved
loop-name-preserved c =
    let at = text_at c.args.list.now c.loop-name.name-index c.name-item.result c.loop-name-test.true c.name-item.is in
    none_more (IsUnknownSort c.args.names.now) (texts c.args.list.now) c.loop-name.name-index c.name-item.result.now at c.loop-name.invariant (λ bad. false≢true (sym c.if-is_unknown.false ∙ c.is_unknown.ensures.1 bad))

pub returns-then-is_unknown : goal.returns-then-is_unknown
returns-then-is_unknown c =
    let at = text_at c.args.list.now c.loop-name.name-index c.name-item.result c.loop-name-test.true c.name-item.is in
    first_here (IsUnknownSort c.args.names.now) (texts c.args.list.now) c.loop-name.name-index c.name-item.result.now at c.loop-name.invariant (c.is_unknown.ensures.0 c.if-is_unknown.true)

pub returns : goal.returns
returns c = none_all (IsUnknownSort c.args.names.now) (texts c.args.list.now) c.loop-name.name-index (omega (arith, texts_length c.args.list.now, c.loop-name-test.false)) c.loop-name.invariant
