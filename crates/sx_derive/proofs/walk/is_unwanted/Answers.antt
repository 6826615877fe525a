use Rattle.std.proofs.Common.{sym, subst}
use Rattle.std.specs.Prelude.{IsTrue, ◌↔◌, not}
use Rattle.sx_derive.specs.Walked.{IsUnwanted}
use Rattle.sx_derive.specs.declared.tasks.Ending.{Ending}
use Rattle.sx_derive.proofs.Walking.{unwanted_found}
use Rattle.sx_derive.proofs.walk.is_unwanted.Goals as goal

pub returns-in-Found : goal.returns-in-Found
returns-in-Found c =
    subst (λ (e : Ending). IsTrue (not c.is_wanted.result) ↔ IsUnwanted c.args.wanted.now e) (sym c.in-Found.is)
    (unwanted_found c.args.wanted.now c.in-Found.head c.in-Found.outputs c.is_wanted.result c.deref.result.now c.deref.ensures.value c.is_wanted.ensures)
