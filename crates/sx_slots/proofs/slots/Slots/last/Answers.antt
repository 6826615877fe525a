use Rattle.std.proofs.Common.{◌≡◌, ◌<◌, ◌∙◌, ℕ, List, length, get_or, refl, ap, subst, arith}
use Rattle.std.proofs.lemmas.List.{get_or_default}
use Rattle.sx_slots.specs.Slots.{slot_of, IsLast, IsLastWith}
use Rattle.sx_slots.proofs.Linking.{answered}
use Rattle.sx_slots.proofs.slots.Slots.last.Goals as goal

pub returns : goal.returns
returns c =
    let t = c.self.invariant in
    let s = c.self.inside in
    let slot = c.slot-slot.result in
    let n : c.len.result ≡ length s.lasts.items = (let l = c.len.ensures in let k = s.lasts.ok in omega arith) in
    let low : slot < length s.lasts.items = (let w = c.slot-slot.ensures.within in omega arith) in
    let at : slot ≡ slot_of (length s.lasts.items) c.args.hash = c.slot-slot.ensures.value ∙ ap (λ x. slot_of x c.args.hash) n in
    let o : IsLast (length s.lasts.items) s.hashes.items (length s.hashes.items) (slot_of (length s.lasts.items) c.args.hash) (get_or s.lasts.items slot 0) =
    subst (λ (x : ℕ). IsLast (length s.lasts.items) s.hashes.items (length s.hashes.items) x (get_or s.lasts.items slot 0)) at (t.linked.of_slot slot low) in
    let w = answered (length s.lasts.items) s.hashes.items _ s.links.items _ s.lasts.items (length s.hashes.items) c.args.hash _ (get_or s.lasts.items slot 0) _ _
    c.as_slice.ensures.value c.as_slice-2.ensures.value refl (c.index.ensures ∙ get_or_default s.lasts.items slot _ 0 low) t.linked (omega arith) o c.sought.ensures in
    subst (λ (hs : List ℕ). IsLastWith hs (length hs) c.args.hash c.sought.result) c.self.view_is w
