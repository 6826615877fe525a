use Rattle.std.proofs.Common.{◌≡◌, ◌+◌, ◌-◌, refl, arith}
use Rattle.sx_arena.specs.Views.{rules_of, set_modes}
use Rattle.sx_derive.proofs.Passed.{one_more_missed}
use Rattle.sx_derive.proofs.passing.pass_over.Goals as goal

pub loop-left-preserved : goal.loop-left-preserved
loop-left-preserved c =
    let i = c.loop-left.invariant in
    let l = i.less in
    let x = i.number in
    let p = c.loop-left-test.true in
    let t = c.if-is_miss.ensures.there refl in
    record {
      places = i.places;
      less = (omega arith);
      number = (omega arith);
      within = λ n e h. (omega arith);
      nothing = λ js a.
          let m : c.args.left.now - (c.loop-left.left - 1) ≡ (c.args.left.now - c.loop-left.left) + 1 = omega arith in
          one_more_missed (set_modes c.args.given.now.rules.now) (rules_of c.args.given.now.rules.now) c.args.given.now.pairs.now c.args.store.now c.args.task.now c.args.task.now.next js (c.args.left.now - c.loop-left.left) _ c.loop-left.next x m (i.nothing js a)
          (c.if-is_miss.ensures.nothing refl js a);
    }
