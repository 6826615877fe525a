use Rattle.std.proofs.Common.{ap, ◌∙◌, ◌++◌, ◌∷◌, [], List, Bool, false}
use Rattle.sx_plain.proofs.MarkLaws.{no_marks-push}
use Rattle.sx_plain.proofs.dropped.unmarked.Goals as goal

pub loop-preserved : goal.loop-preserved
loop-preserved c = c.in_ok-push.ensures.items ∙ ap (λ (ms : List Bool). ms ++ false ∷ []) c.loop.invariant ∙ no_marks-push c.loop.counter
