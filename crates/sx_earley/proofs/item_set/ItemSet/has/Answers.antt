use Rattle.std.proofs.Common.{◌≡◌, ◌∙◌, ◌<◌, ◌-◌, List, length, sym, ap, subst, arith, Contains}
use Rattle.std.proofs.lemmas.Bool.Decides.{nat_tests}
use Rattle.std.proofs.lemmas.List.{get_or_default, length-map}
use Rattle.sx_slots.specs.Slots.{slot_of}
use Rattle.sx_grammar.specs.declared.item.Item.{Item}
use Rattle.sx_earley.specs.PackedItem.{unpacked, packed_hash}
use Rattle.sx_earley.proofs.ItemSets.{sought_from_last, sought_from_next, sought_goes_back, unpacked_there, unpacked_missing, unpacked_none}
use Rattle.sx_earley.proofs.item_set.ItemSet.has.Goals as goal

pub loop-here-init : goal.loop-here-init
loop-here-init c =
    let s = c.self.inside in
    let slot = c.slot-slot.result in
    let n : c.len.result ≡ length s.lasts.items = (let l = c.len.ensures in let k = s.lasts.ok in omega arith) in
    let low : slot < length s.lasts.items = (let w = c.slot-slot.ensures.within in omega arith) in
    sought_from_last s.items.items s.links.items s.lasts.items c.args.item c.self.invariant.table slot _
    (c.slot-slot.ensures.value ∙ ap (λ x. slot_of x c.args.hash) n ∙ ap (slot_of (length s.lasts.items)) c.requires) low
    (c.index.ensures ∙ get_or_default s.lasts.items slot _ 0 low)

pub loop-here-smaller : goal.loop-here-smaller
loop-here-smaller c =
    let s = c.self.inside in
    let here = c.loop-here.here in
    let some = c.loop-here-test.true in
    let low : here - 1 < length s.links.items =
    (let w = c.loop-here.invariant.within in let t = c.self.invariant.table.many in let m = length-map s.items.items packed_hash in omega arith) in
    sought_goes_back s.items.items s.links.items s.lasts.items c.args.item c.self.invariant.table here some c.loop-here.invariant _
    (c.index-in-loop-here.ensures ∙ get_or_default s.links.items (here - 1) _ 0 low)

pub loop-here-preserved : goal.loop-here-preserved
loop-here-preserved c =
    let s = c.self.inside in
    let here = c.loop-here.here in
    let some = c.loop-here-test.true in
    let low : here - 1 < length s.links.items =
    (let w = c.loop-here.invariant.within in let t = c.self.invariant.table.many in let m = length-map s.items.items packed_hash in omega arith) in
    let own : here - 1 < length s.items.items = (let w = c.loop-here.invariant.within in omega arith) in
    sought_from_next s.items.items s.links.items s.lasts.items c.args.item c.self.invariant.table here some c.loop-here.invariant _
    (λ e. c.is.ensures.no c.if-is.false (c.index-other.ensures ∙ get_or_default s.items.items (here - 1) _ c.args.item own ∙ e))
    (c.index-in-loop-here.ensures ∙ get_or_default s.links.items (here - 1) _ 0 low)

pub returns-then-is-clause-yes : goal.returns-then-is-clause-yes
returns-then-is-clause-yes c = λ yes.
    let s = c.self.inside in
    let here = c.loop-here.here in
    let own : here - 1 < length s.items.items = (let w = c.loop-here.invariant.within in let t = c.loop-here-test.true in omega arith) in
    subst (λ (l : List Item). Contains l (unpacked c.args.item)) c.self.view_is
    (unpacked_there s.items.items c.args.item _ (here - 1) own c.index-other.ensures (c.is.ensures.yes c.if-is.true))

pub returns-clause-no : goal.returns-clause-no
returns-clause-no c = λ no there.
    let s = c.self.inside in
    unpacked_missing s.items.items s.lasts.items c.args.item c.loop-here.here c.loop-here.invariant (let t = c.loop-here-test.false in omega arith)
    (subst (λ (l : List Item). Contains l (unpacked c.args.item)) (sym c.self.view_is) there)

pub returns-then-is_empty-clause-no : goal.returns-then-is_empty-clause-no
returns-then-is_empty-clause-no c = λ no there.
    let s = c.self.inside in
    let none : length s.lasts.items ≡ 0 = (let k = s.lasts.ok in grind (arith, nat_tests, c.is_empty.ensures, c.if-is_empty.true, k)) in
    unpacked_none s.items.items s.links.items s.lasts.items c.args.item c.self.invariant.table none
    (subst (λ (l : List Item). Contains l (unpacked c.args.item)) (sym c.self.view_is) there)
