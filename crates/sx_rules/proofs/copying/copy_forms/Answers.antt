use Rattle.std.proofs.Common.{map, ap, ◌∙◌, arith}
use Rattle.std.proofs.lemmas.Result.{IfOk-from_err}
use Rattle.sx_rules.specs.Views.{form}
use Rattle.sx_rules.proofs.CopyLaws.{copied_more, copied_all}
use Rattle.sx_rules.proofs.copying.copy_forms.Goals as goal

pub returns-in_err-copies : goal.returns-in_err-copies
returns-in_err-copies c = IfOk-from_err _ _ c.from_residual.ensures.0

pub loop-i-init : goal.loop-i-init
loop-i-init c = ap (map form) c.in_ok-copies.ensures.items

pub returns-in_err-copy : goal.returns-in_err-copy
returns-in_err-copy c = IfOk-from_err _ _ c.from_residual-in_err-copy.ensures.0

pub returns-in_err-push : goal.returns-in_err-push
returns-in_err-push c = IfOk-from_err _ _ c.from_residual-in_err-push.ensures.0

pub loop-i-preserved : goal.loop-i-preserved
loop-i-preserved c =
    ap (map form) c.in_ok-push.ensures.items
    ∙ copied_more form c.loop-i.copies.items c.args.all.now c.loop-i.i c.in_ok-copy.field-0 c.index-all-i.result c.loop-i.invariant c.loop-i-test.true c.index-all-i.is c.in_ok-copy.ensures

pub returns : goal.returns
returns c = copied_all form c.loop-i.copies.items c.args.all.now c.loop-i.i c.loop-i.invariant (omega (arith, c.loop-i-test.false))
