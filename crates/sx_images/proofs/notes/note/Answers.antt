use Rattle.std.proofs.Common.{arith, ◌∙◌}
use Rattle.sx_images.specs.Images.{noted_at}
use Rattle.sx_images.proofs.Noting.{noted-none, noted-set, noted-push, noted-eq, length-eq, with-same}
use Rattle.sx_images.proofs.notes.note.Goals as goal

pub loop-preserved : goal.loop-preserved
loop-preserved g c =
    let e = length-eq _ c.loop.notes.items _ c.in_ok-push.ensures.items in
    let l = c.loop.invariant.len in
    record {
      len = omega arith;
      same = λ i. noted-eq _ _ c.in_ok-push.ensures.items i ∙ noted-none c.loop.notes.items i ∙ c.loop.invariant.same i;
    }

pub returns-then-number-len : goal.returns-then-number-len
returns-then-number-len g c = λ i.
    noted-set c.loop.notes.items c.args.number c.args.value (let m = c.if-number-len.true in let n = c.len.ensures in omega arith) i
    ∙ with-same (noted_at c.loop.notes.items) (noted_at c.args.notes.now.items) c.args.number c.args.value c.loop.invariant.same i

pub returns : goal.returns
returns g c = λ i.
    noted-eq _ _ c.in_ok-push-2.ensures.items i
    ∙ noted-push c.loop.notes.items c.args.number c.args.value (let m = c.if-number-len.false in let n = c.len.ensures in let k = c.loop-test.false in let l = c.loop.invariant.len in omega arith) i
    ∙ with-same (noted_at c.loop.notes.items) (noted_at c.args.notes.now.items) c.args.number c.args.value c.loop.invariant.same i
