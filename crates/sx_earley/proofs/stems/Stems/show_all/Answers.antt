use Rattle.std.proofs.Common.{subst}
use Rattle.std.specs.Prelude.{IfOk, Result, Ok, Err}
use Rattle.sx_earley.specs.Showing.{IsStems}
use Rattle.sx_earley.proofs.stems.Stems.show_all.Goals as goal

ok_for : {A E : Type 0} (P Q : A → Type 0) (r : Result A E) → ((x : A) → P x → Q x) → IfOk r P → IfOk r Q
ok_for P Q (Ok x) more h = more x h
ok_for P Q (Err e) more h = tt

pub returns : goal.returns
returns c = ok_for _ _ c.show_each.result (λ v all. all c.args.self.now (subst (λ s. IsStems s c.self.inside.table) c.self.view_is c.self.invariant)) c.show_each.ensures
