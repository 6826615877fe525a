use Rattle.std.proofs.Common.{ap, ◌∙◌, ◌++◌, ◌∷◌, []}
use Rattle.sx_sample.proofs.Bodies.{bound-more, all-bound}
use Rattle.sx_sample.proofs.sampling.sample.Goals as goal

pub loop-bound-preserved : goal.loop-bound-preserved
loop-bound-preserved c =
    bound-more _ _ _ _ _ c.loop-bound-test.true c.in_ok-put_binding.ensures
    c.loop-bound.invariant

pub returns : goal.returns
returns c =
    c.in_ok-push.ensures.items
    ∙ ap (λ text. text ++ 10 ∷ []) c.in_ok-extend_from_slice.ensures.items
    ∙ all-bound _ _ _ _ c.loop-bound-test.false (c.deref.ensures.value ∙ c.in_ok-last.ensures)
    c.loop-bound.invariant
