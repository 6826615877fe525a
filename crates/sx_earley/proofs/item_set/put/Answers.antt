use Rattle.std.proofs.Common.{◌∙◌, refl, sym, ap, length}
use Rattle.std.proofs.lemmas.List.{get_or-set_same, get_or-set_other}
use Rattle.sx_slots.specs.Slots.{slot_of}
use Rattle.sx_slots.proofs.Linking.{linked_more}
use Rattle.sx_earley.proofs.item_set.put.Goals as goal

pub returns-clause-linked : goal.returns-clause-linked
returns-clause-linked c = λ hs links at link linked.
    let lasts = c.args.lasts.now in
    let s = c.slot-slot.result in
    let e = c.slot-slot.ensures in
    linked_more (length lasts) hs links lasts links _ c.args.number linked s (e.value ∙ ap (slot_of (length lasts)) (sym at)) e.within
    (λ i b. refl) link
    (λ t d. get_or-set_other lasts s t _ 0 d) (get_or-set_same lasts s _ 0 e.within)
