use Rattle.std.proofs.Common.{◌+◌, ℕ, sym, subst, ◌∙◌}
use Rattle.sx_plain.specs.Measures.{total}
use Rattle.sx_expand.proofs.Steps.{StepsLeft, stepping-first, step-held, step-apart, steps-end}
use Rattle.sx_expand.proofs.ends.after_kids.Goals.{in-Holds, in-Apart}
use Rattle.sx_expand.proofs.ends.after_kids.Goals as goal

pub loop-premise-init : goal.loop-premise-init
loop-premise-init c = stepping-first c.args.premises.now c.args.ends.now c.args.first

pub number_at-end-requires : goal.number_at-end-requires
number_at-end-requires c =
    let r = c.requires in
    (step-held _ _ _ _ _ _ _ c.loop-premise-test.true c.premise-item.is c.in-Holds.is (c.loop-premise.invariant r.0 r.1 r.2)).within

pub loop-premise-preserved : goal.loop-premise-preserved
loop-premise-preserved c sizes many steps =
    let ps = c.args.premises.now in
    let i = c.loop-premise.premise-index in
    let end = c.args.first + total sizes in
    let left = c.loop-premise.invariant sizes many steps in
    let there : ℕ → Type 0 = (λ n. StepsLeft ps c.args.ends.now (i + 1) n end) in
    elim c.match-premise.branch [
      | in-Holds w ↦ subst there (sym (w.end-is ∙ w.number_at-end.ensures)) (step-held ps c.args.ends.now i c.loop-premise.end end c.premise-item.result _ c.loop-premise-test.true c.premise-item.is w.in-Holds.is left).left
      | in-Apart w ↦ subst there (sym w.end-is) (step-apart ps c.args.ends.now i c.loop-premise.end end c.premise-item.result _ _ c.loop-premise-test.true c.premise-item.is w.in-Apart.is left)
    ]

pub returns : goal.returns
returns c = λ sizes many steps. steps-end _ _ _ _ _ c.loop-premise-test.false (c.loop-premise.invariant sizes many steps)
