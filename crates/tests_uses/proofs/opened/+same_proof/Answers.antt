use Rattle.std.proofs.Common.{rules, arith, ◌<◌, refl}
use Rattle.sx_rules.specs.Derivations.{height_of}
use Rattle.sx_rules.specs.ProofView.{proof}
use Rattle.sx_rules.proofs.ProofCopies.{kid-shallow}
use Rattle.sx_rewrite.proofs.KidInstances.{kid-high, node-lower}
use Rattle.tests_uses.proofs.opened.+same_proof.Goals as goal

pub same_proof-requires : goal.same_proof-requires
same_proof-requires t c =
    let n = c.in-By-By in
    let own = c.as_slice-own in
    let high = kid-high own.result.now c.loop-i.i c.index-own-i.result c.deref-in-loop-i.result.now c.loop-i-test.true c.index-own-i.is c.deref-in-loop-i.ensures in
    let low = node-lower c.args.one.now n.rule n.binds n.kids n.is-0 n.binds.items own.result.now refl own.ensures.value in
    let less : height_of (proof c.deref-in-loop-i.result.now) < height_of (proof c.args.one.now) = omega (arith, high, low) in (
      search rules,
      (
        kid-shallow c.args.one.now n.rule n.binds n.kids n.is-0 own.result.now c.loop-i.i c.index-own-i.result c.deref-in-loop-i.result.now own.ensures.value c.loop-i-test.true c.index-own-i.is c.deref-in-loop-i.ensures c.requires.one,
        kid-shallow c.args.other.now n.number n.terms n.others n.is-1 c.as_slice-theirs.result.now c.loop-i.i c.index-theirs-i.result c.deref-in-loop-i-2.result.now c.as_slice-theirs.ensures.value
            (let l = c.loop-i-test.true in let e = c.if-own-theirs.false in omega (arith, l, e)) c.index-theirs-i.is c.deref-in-loop-i-2.ensures c.requires.other,
      ),
    )
