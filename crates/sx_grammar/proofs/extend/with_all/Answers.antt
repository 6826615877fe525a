use Rattle.std.proofs.Common.{◌∙◌, ◌++◌, ◌∷◌, []}
use Rattle.sx_grammar.proofs.extend.with_all.Goals as goal

pub returns-in-Ok-push : goal.returns-in-Ok-push
returns-in-Ok-push c =
    let sorts = c.in-Ok-push.ensures.items ∙ (λ i. (c.in-Ok.ensures i).sorts ++ c.args.sort ∷ []) in
    λ i. record { sorts = sorts i; productions = (c.in-Ok.ensures i).productions }
