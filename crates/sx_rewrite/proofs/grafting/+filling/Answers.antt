use Rattle.std.proofs.Common.{rules, arith, ap, sym, ◌∙◌, ◌<◌, length, ◌≡◌}
use Rattle.std.specs.Vec.{with_items}
use Rattle.std.proofs.lemmas.List.{with_items_is}
use Rattle.sx_rules.specs.ProofView.{boxed}
use Rattle.sx_rewrite.proofs.Grafted.{put-height, put-numbered, put-room, put-step, put-all, node-shallow, node-less, node-numbered, node-many, node-grafted, given-grafted}
use Rattle.sx_rewrite.proofs.grafting.+filling.Goals as goal

pub fill_each-filled-requires : goal.fill_each-filled-requires
fill_each-filled-requires t c =
    let within : c.loop-i.i < length c.loop-i.parts = omega (arith, c.loop-i-test.true, c.loop-i.auto.parts) in
    let is = c.replace-part.ensures.value ∙ c.deref_mut.ensures.value ∙ sym (ap (λ b. b.value) c.index-parts-i.is) in
    let so = c.loop-i.invariant in
    let h = put-height _ _ _ _ _ _ _ so _ _ within c.index-parts-i.is is in
    let s = c.requires.shallow in
    (search rules, (omega arith, (put-numbered _ _ _ _ _ _ _ so _ _ within c.index-parts-i.is is, put-room _ _ _ _ _ _ _ so _ _ within c.index-parts-i.is is c.requires.many)))

pub fill_each-loop-i-preserved : goal.fill_each-loop-i-preserved
fill_each-loop-i-preserved t c =
    let within : c.loop-i.i < length c.loop-i.parts = omega (arith, c.loop-i-test.true, c.loop-i.auto.parts) in
    let is = c.replace-part.ensures.value ∙ c.deref_mut.ensures.value ∙ sym (ap (λ b. b.value) c.index-parts-i.is) in
    put-step _ _ _ _ _ _ _ c.loop-i.invariant _ _ within c.index-parts-i.is is _ _ _ _ c.filled.ensures.grafted c.filled.ensures.next c.filled.ensures.rest c.filled.auto.kids

pub fill_each-returns-clause-grafted : goal.fill_each-returns-clause-grafted
fill_each-returns-clause-grafted t c = put-all _ _ _ _ _ _ _ c.loop-i.invariant c.loop-i-test.false

pub filled-fill_each-requires : goal.filled-fill_each-requires
filled-fill_each-requires t c =
    let less = node-less _ _ _ _ c.in-By.is _ c.deref_mut.ensures.value in
    let many = node-many _ _ _ _ c.in-By.is _ c.deref_mut.ensures.value in
    let m = c.requires.many in
    (search rules, (node-shallow _ _ _ _ c.in-By.is _ c.deref_mut.ensures.value c.requires.shallow, (node-numbered _ _ _ _ c.in-By.is _ c.deref_mut.ensures.value _ c.requires.numbered, omega arith)))

pub filled-returns-in-By-clause-grafted : goal.filled-returns-in-By-clause-grafted
filled-returns-in-By-clause-grafted t c =
    let new = with_items c.in-By.parts c.fill_each.new.parts in
    let l : length c.fill_each.new.parts ≡ c.in-By.parts.len = omega (arith, c.fill_each.auto.parts, c.deref_mut.ensures.len) in
    node-grafted _ _ _ _ c.in-By.is _ c.deref_mut.ensures.value _ new (ap boxed (with_items_is c.in-By.parts c.fill_each.new.parts l) ∙ c.fill_each.ensures.grafted)

pub filled-returns-in-By-clause-next : goal.filled-returns-in-By-clause-next
filled-returns-in-By-clause-next t c =
    let many = node-many _ _ _ _ c.in-By.is _ c.deref_mut.ensures.value in
    let n = c.fill_each.ensures.next in omega arith

pub filled-returns-in-Given-clause-grafted : goal.filled-returns-in-Given-clause-grafted
filled-returns-in-Given-clause-grafted t c =
    given-grafted _ _ _ _ _ _ c.in-Given.is c.requires.numbered c.requires.many c.index-kids-next.is (c.replace-kid.ensures.value ∙ c.deref_mut-in-Given.ensures.value ∙ sym (ap (λ b. b.value) c.index-kids-next.is))
