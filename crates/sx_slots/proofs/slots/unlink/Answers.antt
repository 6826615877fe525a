use Rattle.std.proofs.Common.{◌≡◌, ◌+◌, ◌-◌, ◌∙◌, ℕ, length, get_or, ap, subst, arith}
use Rattle.std.proofs.lemmas.List.{length-set, get_or-set_same, get_or-set_other}
use Rattle.sx_slots.specs.Slots.{slot_of, AreLinked}
use Rattle.sx_slots.proofs.Linking.{linked_less}
use Rattle.sx_slots.proofs.slots.unlink.Goals as goal

pub loop-number-preserved : goal.loop-number-preserved
loop-number-preserved c =
    let hs = c.args.hashes.now in
    let links = c.args.links.now in
    let lasts = c.loop-number.lasts in
    let i = c.loop-number.invariant in
    let t = c.loop-number-test.true in
    let k = c.loop-number.number - 1 in
    let e : c.loop-number.number ≡ k + 1 = omega arith in
    let s = c.slot-slot.result in
    let h : AreLinked (length c.args.lasts.now) hs links lasts (k + 1) = subst (λ (x : ℕ). AreLinked (length c.args.lasts.now) hs links lasts x) e i.linked in
    record {
      least = (let l = i.least in omega arith);
      within = (let w = i.within in omega arith);
      slots = length-set lasts s _ ∙ i.slots;
      linked = linked_less (length c.args.lasts.now) hs links lasts _ k h s (c.slot-slot.ensures.value ∙ ap (λ n. slot_of n (get_or hs k 0)) i.slots)
          (λ u d. get_or-set_other lasts s u _ 0 d) (get_or-set_same lasts s _ 0 c.slot-slot.ensures.within);
    }
