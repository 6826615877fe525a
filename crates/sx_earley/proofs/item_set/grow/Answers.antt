use Rattle.std.proofs.Common.{◌≡◌, ◌+◌, ◌∙◌, length, map, set, refl, sym, ap, arith}
use Rattle.std.proofs.lemmas.List.{get_or-map, get_or-set_same, get_or-set_other, length-set, length-map}
use Rattle.sx_slots.specs.Slots.{AreLinked}
use Rattle.sx_slots.proofs.Linking.{linked_is, linked_none, linked_same, zero_at, written_back}
use Rattle.sx_earley.specs.PackedItem.{packed_hash}
use Rattle.sx_earley.proofs.item_set.grow.Goals as goal

pub loop-number-init : goal.loop-number-init
loop-number-init c = record {
  within = omega arith;
  many = c.requires.many ∙ length-map c.args.items.now packed_hash;
  slots = (let k = c.in_ok-wider.wider.ok in let l = c.in_ok-wider.ensures.len in omega arith);
  linked = linked_none c.more_slots-slots.result (map packed_hash c.args.items.now) c.args.links.now c.in_ok-wider.wider.items (zero_at c.more_slots-slots.result c.in_ok-wider.wider.items (c.in_ok-wider.ensures.items_if_clones_equal (λ y e. e)));
}

pub loop-number-preserved : goal.loop-number-preserved
loop-number-preserved c =
    let i = c.loop-number.invariant in
    let number = c.loop-number.number in
    let low = c.loop-number-test.true in
    let hashes = map packed_hash c.args.items.now in
    let links = c.loop-number.links in
    let lasts = c.as_mut_slice.result.now in
    let new = set links number c.put.result in
    let v = c.as_mut_slice.ensures.value in
    let n : length c.put.new.lasts ≡ length c.loop-number.wider.items = c.put.ensures.lasts ∙ ap length v in
    let w = written_back c.loop-number.wider.len c.put.new.lasts c.loop-number.wider.items n (let k = c.loop-number.wider.ok in omega arith) in
    let old : AreLinked (length lasts) hashes new lasts number =
    linked_is _ _ hashes hashes new new lasts _ number number (ap length v ∙ i.slots) refl refl v refl
    (linked_same c.more_slots-slots.result hashes hashes links new c.loop-number.wider.items number (λ j b. refl) (λ j b. get_or-set_other links number j c.put.result 0 (omega arith)) i.linked) in
    let more = c.put.ensures.linked hashes new (get_or-map packed_hash c.args.items.now number _ 0 low ∙ sym c.hash-hash.ensures)
    (get_or-set_same links number c.put.result 0 (let m = i.many in omega arith)) old in
    record {
      within = omega arith;
      many = length-set links number c.put.result ∙ i.many;
      slots = ap length w ∙ n ∙ i.slots;
      linked = linked_is _ _ hashes hashes new new _ _ (number + 1) (number + 1) (sym (ap length v ∙ i.slots)) refl refl w refl more;
    }

pub returns-clause-table : goal.returns-clause-table
returns-clause-table c =
    let i = c.loop-number.invariant in
    let m = length-map c.args.items.now packed_hash in
    let r = c.requires.room in
    let s = c.more_slots-slots.ensures in
    let l = c.len-2.ensures in
    let k = c.args.lasts.now.ok in
    record {
      many = i.many ∙ sym m;
      room = (let e = i.slots in omega arith);
      few = (let e = i.slots in omega arith);
      linked = linked_is _ _ _ (map packed_hash c.args.items.now) _ c.loop-number.links _ c.loop-number.wider.items _ c.loop-number.number i.slots refl refl refl
          (let w = i.within in let t = c.loop-number-test.false in omega arith) i.linked;
    }
