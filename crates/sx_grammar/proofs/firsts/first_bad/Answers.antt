use Rattle.std.proofs.Common.{sym, ◌∙◌}
use Rattle.std.proofs.lemmas.Bool.{false≢true}
use Rattle.sx_grammar.specs.Parts.{texts}
use Rattle.sx_grammar.specs.Made.{IsBadLiteral}
use Rattle.sx_grammar.proofs.FirstLaws.{text_at, none_more, first_here}
use Rattle.sx_grammar.proofs.firsts.first_bad.Goals as goal

pub loop-text-preserved : goal.loop-text-preserved
loop-text-preserved c =
    let at = text_at c.args.literals.now c.loop-text.text-index c.text-item.result c.loop-text-test.true c.text-item.is in
    none_more IsBadLiteral (texts c.args.literals.now) c.loop-text.text-index c.text-item.result.now at c.loop-text.invariant (λ bad. false≢true (sym c.if-is_bad_literal.false ∙ c.is_bad_literal.ensures.1 bad))

pub returns-then-is_bad_literal : goal.returns-then-is_bad_literal
returns-then-is_bad_literal c =
    let at = text_at c.args.literals.now c.loop-text.text-index c.text-item.result c.loop-text-test.true c.text-item.is in
    first_here IsBadLiteral (texts c.args.literals.now) c.loop-text.text-index c.text-item.result.now at c.loop-text.invariant (c.is_bad_literal.ensures.0 c.if-is_bad_literal.true)
