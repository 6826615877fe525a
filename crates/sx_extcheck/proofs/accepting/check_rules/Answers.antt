use Rattle.std.proofs.Common.{◌+◌, List, refl, sym, subst, arith}
use Rattle.std.specs.Prelude.{Err}
use Rattle.sx_rewrite.proofs.Instanced.{err_is}
use Rattle.sx_rewrite.proofs.PlainGood.{held-in}
use Rattle.sx_rewrite.specs.declared.flat.Flat.{Flat}
use Rattle.sx_extcheck.specs.declared.accept_error.AcceptError.{AcceptError}
use Rattle.sx_extcheck.specs.Accepts.{WereChecked}
use Rattle.sx_extcheck.specs.CheckView.{check_with, CanCheck}
use Rattle.sx_extcheck.proofs.Fronts.{FrontAt, front-begin, front-next, front-memory, front-refused, front-end}
use Rattle.sx_extcheck.proofs.accepting.check_rules.Goals as goal

pub check_rule-requires : goal.check_rule-requires
check_rule-requires g c =
    held-in (CanCheck c.args.set.now c.args.ext.now.plain) c.args.ext.now.rules.items c.loop-rule.rule-index c.rule-item.result c.requires
    (rw c.deref-rule-items.ensures.value at c.loop-rule-test.true) (rw c.deref-rule-items.ensures.value at c.rule-item.is)

pub loop-rule-init : goal.loop-rule-init
loop-rule-init g c =
    subst (λ (fs : List Flat). FrontAt (check_with c.args.set.now c.args.ext.now.plain c.args.budgets) c.args.ext.now.rules.items c.args.steps.now c.args.steps.now fs 0) (sym c.new-flats.ensures.items)
    (front-begin (check_with c.args.set.now c.args.ext.now.plain c.args.budgets) c.args.ext.now.rules.items c.args.steps.now)

pub returns-in_err-push-in-Ok : goal.returns-in_err-push-in-Ok
returns-in_err-push-in-Ok g c =
    let n = c.in-Ok.ensures.steps in
    err_is (WereChecked (check_with c.args.set.now c.args.ext.now.plain c.args.budgets) c.args.ext.now.rules.items c.args.steps.now c.check_rule.new.steps) c.from_residual.result _ c.from_residual.ensures.1
    (λ e same. subst (λ (x : AcceptError). WereChecked (check_with c.args.set.now c.args.ext.now.plain c.args.budgets) c.args.ext.now.rules.items c.args.steps.now c.check_rule.new.steps (Err x)) (sym same)
    (front-memory (check_with c.args.set.now c.args.ext.now.plain c.args.budgets) c.args.ext.now.rules.items c.args.steps.now c.loop-rule.steps c.loop-rule.flats.items c.loop-rule.rule-index c.loop-rule.invariant c.rule-item.result (rw c.deref-rule-items.ensures.value at c.loop-rule-test.true) (rw c.deref-rule-items.ensures.value at c.rule-item.is) c.check_rule.new.steps (omega (arith, n)) (omega (arith, n))))

pub returns-in-Err : goal.returns-in-Err
returns-in-Err g c =
    front-refused (check_with c.args.set.now c.args.ext.now.plain c.args.budgets) c.args.ext.now.rules.items c.args.steps.now c.loop-rule.steps c.loop-rule.flats.items c.loop-rule.rule-index c.loop-rule.invariant c.rule-item.result (rw c.deref-rule-items.ensures.value at c.loop-rule-test.true) (rw c.deref-rule-items.ensures.value at c.rule-item.is) c.in-Err.e c.refusal.result c.check_rule.new.steps c.in-Err.ensures.answer c.in-Err.ensures.steps c.refusal.ensures

pub loop-rule-preserved : goal.loop-rule-preserved
loop-rule-preserved g c =
    subst (λ (fs : List Flat). FrontAt (check_with c.args.set.now c.args.ext.now.plain c.args.budgets) c.args.ext.now.rules.items c.args.steps.now c.check_rule.new.steps fs (c.loop-rule.rule-index + 1)) (sym c.in_ok-push-in-Ok.ensures.items)
    (front-next (check_with c.args.set.now c.args.ext.now.plain c.args.budgets) c.args.ext.now.rules.items c.args.steps.now c.loop-rule.steps c.loop-rule.flats.items c.loop-rule.rule-index c.loop-rule.invariant c.rule-item.result (rw c.deref-rule-items.ensures.value at c.loop-rule-test.true) (rw c.deref-rule-items.ensures.value at c.rule-item.is) c.in-Ok.flat c.check_rule.new.steps c.in-Ok.ensures.answer c.in-Ok.ensures.steps)

pub returns : goal.returns
returns g c = front-end (check_with c.args.set.now c.args.ext.now.plain c.args.budgets) c.args.ext.now.rules.items c.args.steps.now c.loop-rule.steps c.loop-rule.flats.items c.loop-rule.rule-index c.loop-rule.invariant (rw c.deref-rule-items.ensures.value at c.loop-rule-test.false) c.loop-rule.flats refl
