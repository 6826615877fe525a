use Rattle.std.proofs.Common.{◌≡◌, ◌+◌, ◌∙◌, length, refl, sym, ap, arith}
use Rattle.sx_slots.proofs.Linking.{linked_is, linked_none, zero_at, written_back}
use Rattle.sx_slots.proofs.slots.grow.Goals as goal

pub loop-number-init : goal.loop-number-init
loop-number-init c = record {
  within = omega arith;
  many = c.requires.links;
  slots = (let k = c.in_ok-wider.wider.ok in let l = c.in_ok-wider.ensures.len in omega arith);
  linked = linked_none c.max-slots.result c.args.hashes.now c.args.links.now c.in_ok-wider.wider.items (zero_at c.max-slots.result c.in_ok-wider.wider.items (c.in_ok-wider.ensures.items_if_clones_equal (λ y e. e)));
}

pub link-requires-clause-few : goal.link-requires-clause-few
link-requires-clause-few c =
    let v = ap length c.as_mut_slice.ensures.value in
    let s = c.loop-number.invariant.slots in
    let m = c.max-slots.ensures in
    let l = c.len-2.ensures in
    let n = c.len.ensures in
    let t = c.if-len-ge-MOST_SLOTS.false in
    let k = c.args.lasts.now.ok in
    omega arith

pub link-requires-clause-linked : goal.link-requires-clause-linked
link-requires-clause-linked c =
    let v = c.as_mut_slice.ensures.value in
    let i = c.loop-number.invariant in
    linked_is _ _ _ c.args.hashes.now _ c.loop-number.links _ c.loop-number.wider.items _ _ (ap length v ∙ i.slots) refl refl v refl i.linked

pub loop-number-preserved : goal.loop-number-preserved
loop-number-preserved c =
    let v = ap length c.as_mut_slice.ensures.value in
    let i = c.loop-number.invariant in
    let u = c.link.ensures in
    let n : length c.link.new.lasts ≡ length c.loop-number.wider.items = u.lasts ∙ v in
    let w = written_back c.loop-number.wider.len c.link.new.lasts c.loop-number.wider.items n (let k = c.loop-number.wider.ok in omega arith) in
    record {
      within = (let t = c.loop-number-test.true in omega arith);
      many = u.links ∙ i.many;
      slots = ap length w ∙ n ∙ i.slots;
      linked = linked_is _ _ _ c.args.hashes.now _ c.link.new.links _ c.link.new.lasts _ (c.loop-number.number + 1) (sym (v ∙ i.slots)) refl refl w refl u.linked;
    }

pub returns-clause-linked : goal.returns-clause-linked
returns-clause-linked c =
    let i = c.loop-number.invariant in
    let t = c.loop-number-test.false in
    let e : length c.args.hashes.now ≡ c.loop-number.number = (let w = i.within in omega arith) in
    linked_is _ _ _ c.args.hashes.now _ c.loop-number.links _ c.loop-number.wider.items _ _ i.slots refl refl refl e i.linked

pub returns-clause-few : goal.returns-clause-few
returns-clause-few c =
    let s = c.loop-number.invariant.slots in
    let m = c.max-slots.ensures in
    let l = c.len-2.ensures in
    let n = c.len.ensures in
    let t = c.if-len-ge-MOST_SLOTS.false in
    let k = c.args.lasts.now.ok in
    omega arith
