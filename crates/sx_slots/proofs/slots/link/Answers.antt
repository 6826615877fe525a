use Rattle.std.proofs.Common.{◌<◌, length, arith}
use Rattle.std.proofs.lemmas.List.{get_or-set_same, get_or-set_other}
use Rattle.sx_slots.proofs.Linking.{linked_more}
use Rattle.sx_slots.proofs.slots.link.Goals as goal

pub returns-clause-linked : goal.returns-clause-linked
returns-clause-linked c =
    let k = c.args.number in
    let s = c.slot-slot.result in
    let l : k < length c.args.links.now = (let a = c.requires.links in let b = c.requires.number in omega arith) in
    linked_more _ c.args.hashes.now c.args.links.now c.args.lasts.now _ _ k c.requires.linked s c.slot-slot.ensures.value c.slot-slot.ensures.within
    (λ i b. get_or-set_other c.args.links.now k i _ 0 (omega arith)) (get_or-set_same c.args.links.now k _ 0 l)
    (λ t d. get_or-set_other c.args.lasts.now s t _ 0 d) (get_or-set_same c.args.lasts.now s _ 0 c.slot-slot.ensures.within)
