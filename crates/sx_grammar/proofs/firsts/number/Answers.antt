use Rattle.std.proofs.Common.{sym, ap, ◌∙◌, ◌++◌, ◌∷◌, [], subst, Some, Contains}
use Rattle.std.specs.Prelude.{MatchOption, slice_get, ◌≡◌}
use Rattle.sx_term.specs.Cutting.{AreDistinct}
use Rattle.sx_grammar.specs.Parts.{texts}
use Rattle.sx_grammar.proofs.FirstLaws.{text_at, take_seam, again_here, new_here, distinct_push}
use Rattle.sx_grammar.proofs.firsts.number.Goals as goal

pub returns-then-is_some : goal.returns-then-is_some
returns-then-is_some c =
    let n = c.loop-text.text-index in
    let x = c.text-item.result.now in
    let at = text_at c.args.list.now n c.text-item.result c.loop-text-test.true c.text-item.is in
    again_here (texts c.args.list.now) n x c.loop-text.names c.number.result c.loop-text.invariant.same c.loop-text.invariant.distinct at
    (subst (λ t. MatchOption c.number.result (¬ (Contains c.loop-text.names t)) (λ i. slice_get c.loop-text.names i ≡ Some t)) c.bytes.ensures.value c.number.ensures.exact) (sym c.is_some.ensures ∙ c.if-is_some.true)

pub loop-text-preserved : goal.loop-text-preserved
loop-text-preserved c =
    let n = c.loop-text.text-index in
    let x = c.text-item.result.now in
    let at = text_at c.args.list.now n c.text-item.result c.loop-text-test.true c.text-item.is in
    let new = new_here x c.loop-text.names c.number.result
    (subst (λ t. MatchOption c.number.result (¬ (Contains c.loop-text.names t)) (λ i. slice_get c.loop-text.names i ≡ Some t)) c.bytes.ensures.value c.number.ensures.exact) (sym c.is_some.ensures ∙ c.if-is_some.false) in
    let pushed = c.in_default.ensures ∙ ap (λ t. c.loop-text.names ++ t ∷ []) c.bytes-in-loop-text.ensures.value in
    record {
      same = pushed ∙ ap (λ l. l ++ x ∷ []) c.loop-text.invariant.same ∙ sym (take_seam (texts c.args.list.now) n x at);
      distinct = subst AreDistinct (sym pushed) (distinct_push c.loop-text.names x c.loop-text.invariant.distinct new);
    }
