use Rattle.std.proofs.Common.{◌≡◌, min, length, refl, sym, ap, ◌∙◌, arith}
use Rattle.sx_slots.proofs.Linking.{linked_is, table_is, table_cut, written_back}
use Rattle.sx_slots.proofs.slots.Slots.truncate.Goals as goal

pub invariant_of-self : goal.invariant_of-self
invariant_of-self c =
    let u = c.unlink.ensures in
    let v = c.as_mut_slice.ensures.value in
    let e : length c.unlink.new.lasts ≡ length c.self.inside.lasts.items = u.lasts ∙ ap length v in
    let h = linked_is _ _ c.self.inside.hashes.items _ c.self.inside.links.items _ _ _ _ _ (sym (ap length v)) (sym c.as_slice.ensures.value) (sym c.as_slice-2.ensures.value) refl (ap (λ xs. min c.args.many (length xs)) (sym c.as_slice.ensures.value)) u.linked in
    table_is _ _ _ _ _ _ c.truncate.ensures.items c.truncate-2.ensures.items (written_back _ _ _ e (let k = c.self.inside.lasts.ok in omega arith))
    (table_cut _ _ _ _ c.args.many c.self.invariant h e)
