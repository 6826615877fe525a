use Rattle.std.proofs.Common.{◌≡◌, ◌++◌, ◌∷◌, [], ◌∙◌, ℕ, List, length, map, refl, sym, ap, subst, arith, Contains}
use Rattle.sx_grammar.specs.declared.item.Item.{Item}
use Rattle.sx_slots.proofs.Linking.{table_is, written_back}
use Rattle.sx_earley.specs.declared.packed_item.PackedItem.{PackedItem}
use Rattle.sx_earley.specs.PackedItem.{unpacked, packed_hash}
use Rattle.sx_earley.specs.ItemSet.{IsItemSet}
use Rattle.sx_earley.proofs.ItemSets.{IsPut, set_more, set_is}
use Rattle.sx_earley.proofs.item_set.ItemSet.add.Goals as goal

pub invariant_of-self-2 : goal.invariant_of-self-2
invariant_of-self-2 c =
    let items = c.self.inside.items.items in
    let packed = c.in-Some.packed in
    let links = c.make_room.new.links in
    let lasts = c.make_room.new.lasts.items in
    let link = c.put-link.result in
    let v = c.as_slice.ensures.value in
    let w = c.as_mut_slice-2.ensures.value in
    let set : IsItemSet items links lasts = record {
      once = c.self.invariant.once;
      table = table_is _ _ _ _ _ _ (ap (map packed_hash) (sym v)) refl refl c.make_room.ensures.table;
    } in
    let number : c.len-number.result ≡ length items = (let a = c.len-number.ensures in let e = ap length c.in_ok-reserve-2.ensures.items in let k = c.reserve-2.new.self.ok in omega arith) in
    let put : IsPut lasts c.put-link.new.lasts (packed_hash packed) (length items) link =
    coe 0 1 (i. IsPut (w i) c.put-link.new.lasts (c.hash-hash.ensures i) (number i) link) c.put-link.ensures.linked in
    let same : length c.put-link.new.lasts ≡ length lasts = c.put-link.ensures.lasts ∙ ap length w in
    let m : length links ≡ length c.self.inside.links.items = set.table.many ∙ sym c.self.invariant.table.many in
    let back = written_back c.self.inside.links.len links c.self.inside.links.items m (let k = c.self.inside.links.ok in omega arith) in
    set_is _ (items ++ packed ∷ []) _ (links ++ link ∷ []) _ c.put-link.new.lasts
    (c.push_reserved.ensures.items ∙ ap (λ (l : List PackedItem). l ++ packed ∷ []) c.in_ok-reserve-2.ensures.items)
    (c.push_reserved-2.ensures.items ∙ ap (λ (l : List ℕ). l ++ link ∷ []) (c.in_ok-reserve.ensures.items ∙ back))
    (written_back _ _ _ same (let k = c.make_room.new.lasts.ok in omega arith))
    (set_more items links lasts c.put-link.new.lasts packed link set (λ there. c.has.ensures.no c.if-has.false (subst (λ (l : List Item). Contains l (unpacked packed)) c.self.view_is there))
    (let r = c.in_ok-make_room.ensures.room in let e = ap length v in omega arith) same put)
