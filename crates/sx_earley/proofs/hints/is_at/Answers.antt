use Rattle.std.proofs.Common.{◌≡◌, Contains, sym, subst, ◌∙◌, Some}
use Rattle.std.specs.List.{slice_get}
use Rattle.sx_earley.proofs.Closing.{there_at}
use Rattle.sx_earley.proofs.hints.is_at.Goals as goal

pub returns-in-Some : goal.returns-in-Some
returns-in-Some c = λ yes.
    let keys = c.args.found.now in let other = c.in-Some.other in
    let at : slice_get keys c.args.place ≡ Some other = sym c.get.ensures ∙ c.in-Some.is in
    subst (λ x. Contains keys x) (c.is_same.ensures.yes yes) (there_at keys c.args.place other at)
