use Rattle.std.proofs.Common.{◌≡◌, ℕ, true, Option, Vec, Global, sym, ◌∙◌, subst}
use Rattle.std.specs.Prelude.{◌↔◌, IsTrue, MatchOption}
use Rattle.sx_derive.proofs.walk.is_wanted.Goals as goal

pub returns-in-Some : goal.returns-in-Some
returns-in-Some c =
    let h = c.same_numbers.ensures in
    let e = c.deref.ensures.value in
    let r = c.same_numbers.result in
    subst (λ (o : Option (Vec ℕ Global)). MatchOption o (r ≡ true) (λ w. IsTrue r ↔ (c.args.outputs.now ≡ w.items)))
    (sym c.in-Some.is) ((λ t. h.0 t ∙ e), (λ q. h.1 (q ∙ sym e)))
