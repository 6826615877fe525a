use Rattle.std.proofs.Common.{◌+◌, Vec, sym, subst}
use Rattle.std.specs.declared.alloc.Global.{Global}
use Rattle.sx_rewrite.specs.declared.given_use.GivenUse.{GivenUse}
use Rattle.sx_rewrite.proofs.Noted.{UsesSoFar, uses-none, uses-held, uses-apart, uses-all}
use Rattle.sx_rewrite.proofs.sizing.no_uses.Goals.{in-Holds+in_ok-push-in-Holds, in-Apart}
use Rattle.sx_rewrite.proofs.sizing.no_uses.Goals as goal

pub loop-premise-init : goal.loop-premise-init
loop-premise-init c = uses-none _ _ c.new-uses.ensures.items

pub loop-premise-preserved : goal.loop-premise-preserved
loop-premise-preserved c =
    let ps = c.args.premises.now in
    let i = c.loop-premise.premise-index in
    let us = c.loop-premise.uses.items in
    let there : Vec GivenUse Global → Type 0 = (λ v. UsesSoFar ps (i + 1) v.items) in
    elim c.match-premise.branch [
      | in-Holds+in_ok-push-in-Holds w ↦ subst there (sym w.uses-is)
          (uses-held ps i c.premise-item.result w.in-Holds.field-0 us w.push.new.self.items c.loop-premise-test.true c.premise-item.is w.in-Holds.is w.in_ok-push-in-Holds.ensures.items c.loop-premise.invariant)
      | in-Apart w ↦ subst there (sym w.uses-is)
          (uses-apart ps i c.premise-item.result w.in-Apart.field-0 w.in-Apart.field-1 us c.loop-premise-test.true c.premise-item.is w.in-Apart.is c.loop-premise.invariant)
    ]

pub returns : goal.returns
returns c = uses-all _ _ _ c.loop-premise-test.false c.loop-premise.invariant
