use Rattle.std.proofs.Common.{◌<◌, ◌∙◌, ℕ, List, length, get_or, ap, subst, arith}
use Rattle.std.proofs.lemmas.List.{get_or_default}
use Rattle.sx_slots.specs.Slots.{IsLastWith}
use Rattle.sx_slots.proofs.Linking.{answered}
use Rattle.sx_slots.proofs.slots.Slots.before.Goals as goal

pub returns : goal.returns
returns c =
    let t = c.self.invariant in
    let s = c.self.inside in
    let n = c.args.number in
    let low : n < length s.hashes.items = (let k = ap length c.self.view_is in let r = c.requires in omega arith) in
    let m : n < length s.links.items = (let k = t.many in omega arith) in
    let w = answered (length s.lasts.items) s.hashes.items _ s.links.items _ s.lasts.items n (get_or s.hashes.items n 0) _ (get_or s.links.items n 0) _ _
    c.as_slice.ensures.value c.as_slice-2.ensures.value (c.index-2.ensures ∙ get_or_default s.hashes.items n _ 0 low) (c.index.ensures ∙ get_or_default s.links.items n _ 0 m)
    t.linked (omega arith) (t.linked.of_number n low) c.sought.ensures in
    subst (λ (hs : List ℕ). IsLastWith hs n (get_or hs n 0) c.sought.result) c.self.view_is w
