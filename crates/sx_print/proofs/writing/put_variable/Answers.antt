use Rattle.std.proofs.lemmas.Result.{on_ok_weaker}
use Rattle.sx_print.proofs.Adding.{name_adds}
use Rattle.sx_print.proofs.writing.put_variable.Goals as goal

pub returns-clause-ok : goal.returns-clause-ok
returns-clause-ok c =
    on_ok_weaker c.put_token.result
    (λ adds. name_adds c.args.vars.now c.args.variable c.in-Some.name.now _ _ _ c.in-Some.ensures.value c.in_ok-push-in-Some.ensures.items adds)
    c.put_token.ensures.ok
