use Rattle.std.proofs.Common.{refl, sym, ◌∙◌, true≢false}
use Rattle.sx_earley.specs.Counted.{added, missed}
use Rattle.sx_earley.proofs.prediction.predict_opening.Goals as goal

pub returns-then-is_missed : goal.returns-then-is_missed
returns-then-is_missed c = missed (c.is_new.ensures.0 c.if-not-is_new.false) (c.is_missed.ensures.0 c.if-is_missed.true) refl refl

pub returns : goal.returns
returns c = added (c.is_new.ensures.0 c.if-not-is_new.false) (λ miss. true≢false (sym (c.is_missed.ensures.1 miss) ∙ c.if-is_missed.false))
    c.add.ensures.extends c.add.ensures.only c.in_ok-add.ensures.added refl
