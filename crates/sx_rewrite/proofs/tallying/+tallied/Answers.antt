use Rattle.std.proofs.Common.{ap, arith, rules, get_or, length, ◌<◌, ◌∙◌, List}
use Rattle.sx_rules.specs.ProofView.{proof}
use Rattle.sx_rewrite.specs.declared.given_use.GivenUse.{GivenUse}
use Rattle.sx_rewrite.specs.AcceptedView.{accepted}
use Rattle.sx_rewrite.proofs.SizeLaws.{near-at}
use Rattle.sx_rewrite.proofs.Tallied.{kids-first, kids-on, kids-last, base-first, base-on, base-last, kid-height, kid-fit, node-less, node-fit, node-many, node-sized, node-based, with-unused}
use Rattle.sx_rewrite.proofs.tallying.+tallied.Goals as goal

pub with_kid-with_kid-requires : goal.with_kid-with_kid-requires
with_kid-with_kid-requires t c =
    let q = c.if-given-eq0.false in
    let s = c.tally.ensures.small in
    let l = c.requires.shallow in
    record { used = omega (arith, q); near = c.requires.near; low = omega (arith, s, l) }

pub with_kid-returns-then-given-eq0 : goal.with_kid-returns-then-given-eq0
with_kid-returns-then-given-eq0 t c = with-unused (accepted c.args.set.now) c.args.given (proof c.args.kid.now) c.args.so_far c.if-given-eq0.true (omega arith)

pub with_kid-returns : goal.with_kid-returns
with_kid-returns t c = c.with_kid.ensures (accepted c.args.set.now) (proof c.args.kid.now) c.tally.ensures

pub base_tally-loop-i-init : goal.base_tally-loop-i-init
base_tally-loop-i-init t c = base-first (accepted c.args.set.now) c.args.kids.now _ c.of_one-all.ensures

pub base_tally-with_kid-all-requires : goal.base_tally-with_kid-all-requires
base_tally-with_kid-all-requires t c =
    let is = c.deref.ensures in
    let h = kid-height _ _ _ _ c.loop-i-test.true c.index-kids-i.is is in
    let f = kid-fit (accepted c.args.set.now) _ _ _ _ c.requires.fit c.loop-i-test.true c.index-kids-i.is is in
    let s = c.requires.shallow in
    (search rules, (omega arith, (f, omega arith)))

pub base_tally-loop-i-preserved : goal.base_tally-loop-i-preserved
base_tally-loop-i-preserved t c =
    let is = c.deref.ensures in
    let a = accepted c.args.set.now in
    base-on a c.args.kids.now c.loop-i.i c.loop-i.all c.with_kid-all.result c.index-kids-i.result c.deref.result.now c.loop-i-test.true c.index-kids-i.is is c.with_kid-all.ensures c.loop-i.invariant

pub base_tally-returns : goal.base_tally-returns
base_tally-returns t c = base-last (accepted c.args.set.now) c.args.kids.now c.loop-i.i c.loop-i.all c.loop-i-test.false c.loop-i.invariant

pub certificate_tally-loop-i-init : goal.certificate_tally-loop-i-init
certificate_tally-loop-i-init t c = kids-first (accepted c.args.set.now) c.args.size.now c.args.kids.now _ c.own_tally-all.ensures c.requires.small.0 c.requires.small.1

pub certificate_tally-with_kid-all-requires : goal.certificate_tally-with_kid-all-requires
certificate_tally-with_kid-all-requires t c =
    let is = c.deref-in-loop-i.ensures in
    let h = kid-height _ _ _ _ c.loop-i-test.true c.index-kids-i.is is in
    let f = kid-fit (accepted c.args.set.now) _ _ _ _ c.requires.fit c.loop-i-test.true c.index-kids-i.is is in
    let s = c.requires.shallow in
    let l : c.loop-i.i < length c.args.size.now.uses.items = (let i = c.loop-i-test.true in let m = c.requires.many in omega arith) in
    let g = c.use_at-given.ensures ∙ ap (λ (x : List GivenUse). get_or x c.loop-i.i c.use_at-given.result) c.deref.ensures.value in
    let n = near-at _ _ _ l g c.requires.small.2 in
    (search rules, (omega arith, (f, n)))

pub certificate_tally-loop-i-preserved : goal.certificate_tally-loop-i-preserved
certificate_tally-loop-i-preserved t c =
    let is = c.deref-in-loop-i.ensures in
    let a = accepted c.args.set.now in
    let g = c.use_at-given.ensures ∙ ap (λ (x : List GivenUse). get_or x c.loop-i.i c.use_at-given.result) c.deref.ensures.value in
    kids-on a c.args.size.now c.args.kids.now c.loop-i.i c.loop-i.all c.with_kid-all.result c.use_at-given.result c.index-kids-i.result c.deref-in-loop-i.result.now
    c.loop-i-test.true c.requires.many g c.index-kids-i.is is c.with_kid-all.ensures c.loop-i.invariant

pub certificate_tally-returns : goal.certificate_tally-returns
certificate_tally-returns t c = kids-last (accepted c.args.set.now) c.args.size.now c.args.kids.now c.loop-i.i c.loop-i.all c.loop-i-test.false c.loop-i.invariant

pub tally-certificate_tally-requires : goal.tally-certificate_tally-requires
tally-certificate_tally-requires t c =
    let a = accepted c.args.set.now in
    let less = node-less a _ _ _ _ _ c.in-By.is c.deref.ensures.value in
    let fit = node-fit a _ _ _ _ _ c.in-By.is c.deref.ensures.value c.requires.kids in
    let many = node-many a _ _ _ _ _ c.in-By.is c.deref.ensures.value c.in-Some.size.now c.in-Some.ensures.value c.requires.kids in
    let s = c.requires.shallow in
    (search rules, (omega arith, (fit.1, (many, c.in-Some.ensures.small))))

pub tally-base_tally-requires : goal.tally-base_tally-requires
tally-base_tally-requires t c =
    let a = accepted c.args.set.now in
    let less = node-less a _ _ _ _ _ c.in-By.is c.deref-in-None.ensures.value in
    let fit = node-fit a _ _ _ _ _ c.in-By.is c.deref-in-None.ensures.value c.requires.kids in
    let s = c.requires.shallow in
    (search rules, (omega arith, fit.1))

pub tally-returns-in-Some : goal.tally-returns-in-Some
tally-returns-in-Some t c =
    node-sized (accepted c.args.set.now) _ _ _ _ _ c.in-By.is c.deref.ensures.value c.in-Some.size.now c.in-Some.ensures.value c.in-Some.ensures.only c.requires.kids _ c.certificate_tally.ensures

pub tally-returns-in-None : goal.tally-returns-in-None
tally-returns-in-None t c =
    node-based (accepted c.args.set.now) _ _ _ _ _ c.in-By.is c.deref-in-None.ensures.value c.in-None.ensures.value c.requires.kids _ c.base_tally.ensures
