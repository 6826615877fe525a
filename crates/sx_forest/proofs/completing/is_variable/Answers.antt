use Rattle.std.proofs.Common.{ap, Some}
use Rattle.std.proofs.lemmas.Bool.{eq-eqb, eqb-true}
use Rattle.std.proofs.lemmas.Option.{same_Some, none-some}
use Rattle.sx_forest.proofs.completing.is_variable.Goals as goal

pub returns-then-shown-eq1 : goal.returns-then-shown-eq1
returns-then-shown-eq1 c = λ d.
    let n = c.in-Some.sort in let m = c.args.start in let marked = c.in-Some.ensures d m in (
      λ yes. (c.if-shown-eq1.true, marked.0 (ap Some (eqb-true n m yes))),
      λ one. eq-eqb n m (same_Some n m (marked.1 one.1)),
    )

pub returns-in-None : goal.returns-in-None
returns-in-None c = λ d. (λ yes. absurd cc, λ one. absurd (none-some c.args.start ((c.in-None.ensures d c.args.start).1 one.1)))
