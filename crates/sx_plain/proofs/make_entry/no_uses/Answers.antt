use Rattle.std.proofs.Common.{ap, ◌∙◌, ◌++◌, ◌∷◌, [], List, refl}
use Rattle.sx_plain.specs.declared.part_use.PartUse.{PartUse}
use Rattle.sx_plain.proofs.UseLaws.{unused_parts-push}
use Rattle.sx_plain.proofs.make_entry.no_uses.Goals as goal

pub loop-preserved : goal.loop-preserved
loop-preserved c = c.in_ok-push.ensures.items ∙ ap (λ (us : List PartUse). us ++ record { times = 0; above = 0 } ∷ []) c.loop.invariant ∙ unused_parts-push c.loop.counter _ refl
