use Rattle.std.proofs.Common.{rules, arith, ℕ, ◌+◌, ◌-◌, ◌<◌, ◌++◌, ◌∷◌, [], List, length, ap, sym, subst, ◌∙◌}
use Rattle.std.proofs.lemmas.Result.{IfOk-weaker}
use Rattle.std.proofs.lemmas.List.{length-map}
use Rattle.sx_rules.specs.Derivations.{Proofs}
use Rattle.sx_rules.specs.EntryView.{entry, entries}
use Rattle.sx_rules.specs.Orders.{Entry, of_given}
use Rattle.sx_rules.specs.ProofView.{proof}
use Rattle.sx_rules.specs.declared.proof.Proof.{Proof as ProofOf}
use Rattle.sx_rules.specs.declared.entry.Entry.TheVariants.{Rule, Given}
use Rattle.sx_rules.proofs.ProofRows.{height_of-kid}
use Rattle.sx_expand.specs.Listed.{set_in, entries_in, StandsIn, StandInEach}
use Rattle.sx_expand.specs.LoweredOrders.{lowered_orders, grafted_order, all_entries}
use Rattle.sx_expand.specs.Steps.{AreNotBelow}
use Rattle.sx_expand.proofs.EndsAt.{listed-within}
use Rattle.sx_expand.proofs.Rows.{IsHead, head-is}
use Rattle.sx_expand.proofs.Emitting.{IsRuleAt, entries-push, entries-one, rule-at, checked-is, basic-is, given-is, Writing, writing-more, writing-last, placed-at, never-placed, left-from, left-at, grafted-opens, grafted-on}
use Rattle.sx_expand.proofs.emission.+emitted.Goals as goal
use Rattle.sx_expand.proofs.emission.+emitted.Goals.{emit-Start, emit-In-Rule, emit_kids-In-loop-at}

-- the entry is in the list
entry_is_there : (t : ℕ) (c : emit-Start t) → c.args.at < length c.args.listing.now.list.now
entry_is_there t c = listed-within (set_in c.args.listing.now) c.args.listing.now.list.now c.args.at c.requires.stands.0 c.requires.stands.1

-- the rule's node with its kids is listed there
rule_is_listed : (t : ℕ) (c : emit-In-Rule t) → IsRuleAt (set_in c.args.listing.now) c.args.listing.now.list.now c.args.listing.now.ends.now c.requires.ends c.args.at c.entry_at.result c.entry_at.ensures c.in-Rule.number c.requires.stands.0
rule_is_listed t c = rule-at (set_in c.args.listing.now) c.args.listing.now.list.now c.args.listing.now.ends.now c.requires.ends c.args.at c.entry_at.result c.entry_at.ensures c.in-Rule.number c.in-Rule.is c.requires.stands.0 c.requires.stands.1

-- the next of the row that stands in the list
next_in_row : (t : ℕ) (c : emit_kids-In-loop-at t) → (left : Proofs) × IsHead (set_in c.args.listing.now) (entries_in c.args.listing.now) c.args.listing.now.ends.now c.loop-at.at c.args.end left
next_in_row t c =
    let r = c.requires.stand in
    let s = c.loop-at.invariant.writing r.0 (record { row = r.1; sum = r.2 }) in
    (s.left, head-is (set_in c.args.listing.now) (entries_in c.args.listing.now) c.args.listing.now.ends.now c.loop-at.at c.args.end s.left c.requires.ends c.loop-at-test.true s.up)

pub emit-entry_at-requires : goal.emit-entry_at-requires
emit-entry_at-requires t c = entry_is_there t (goal.at.emit-entry_at-requires t c).Start

pub emit-number_at-end-requires : goal.emit-number_at-end-requires
emit-number_at-end-requires t c =
    let w = entry_is_there t (goal.at.emit-number_at-end-requires t c).Start in
    let m = c.requires.ends.many in
    let k = length-map c.args.listing.now.list.now entry in omega (arith, w, m, k)

pub emit-overflow_add-at : goal.emit-overflow_add-at
emit-overflow_add-at t c =
    let w = entry_is_there t (goal.at.emit-overflow_add-at t c).Start in omega arith

pub emit-kid_places-requires-clause-stand : goal.emit-kid_places-requires-clause-stand
emit-kid_places-requires-clause-stand t c =
    let s = rule_is_listed t (goal.at.emit-kid_places-requires-clause-stand t c).In-Rule in
    (s.kids, s.up.row, s.up.sum ∙ sym c.number_at-end.ensures)

pub emit-emit_certificate-requires : goal.emit-emit_certificate-requires
emit-emit_certificate-requires t c =
    let w = entry_is_there t (goal.at.emit-emit_certificate-requires t c).Start in
    let s = rule_is_listed t (goal.at.emit-emit_certificate-requires t c).In-Rule in
    let each = c.in_ok-places-in-Some.ensures.stand s.kids s.up.row (s.up.sum ∙ sym c.number_at-end.ensures) in
    let v = c.deref.ensures.value in
    let low = left-from (length c.args.listing.now.list.now) (c.args.at + 1) c.deref.result.now (subst (AreNotBelow (c.args.at + 1)) (sym v) c.in_ok-places-in-Some.ensures.after) in
    let h = c.in-Some.ensures.shallow.0 in
    (search rules, (c.requires.ends, (h, (s.kids, subst (λ (is : List ℕ). StandInEach c.args.listing.now is s.kids) (sym v) each))))

pub emit-overflow_add-at-in-None : goal.emit-overflow_add-at-in-None
emit-overflow_add-at-in-None t c =
    let w = entry_is_there t (goal.at.emit-overflow_add-at-in-None t c).Start in omega arith

pub emit-emit_kids-requires : goal.emit-emit_kids-requires
emit-emit_kids-requires t c =
    let w = entry_is_there t (goal.at.emit-emit_kids-requires t c).Start in
    let s = rule_is_listed t (goal.at.emit-emit_kids-requires t c).In-Rule in
    (search rules, (c.requires.ends, (s.kids, s.up.row, s.up.sum ∙ sym c.number_at-end.ensures)))

pub emit-returns-in_ok-places-in-Some : goal.emit-returns-in_ok-places-in-Some
emit-returns-in_ok-places-in-Some t c =
    let a = set_in c.args.listing.now in
    let v = c.deref.ensures.value in
    IfOk-weaker c.emit_certificate.result _ _
    (λ x f p h.
    let s = rule-at a c.args.listing.now.list.now c.args.listing.now.ends.now c.requires.ends c.args.at c.entry_at.result c.entry_at.ensures c.in-Rule.number c.in-Rule.is p h in
    let each = c.in_ok-places-in-Some.ensures.stand s.kids s.up.row (s.up.sum ∙ sym c.number_at-end.ensures) in
    f s.kids (subst (λ (is : List ℕ). StandInEach c.args.listing.now is s.kids) (sym v) each)
    ∙ ap (λ (xs : List Entry). entries c.args.into.now.items ++ xs) (sym (checked-is a c.args.listing.now.list.now c.args.listing.now.ends.now c.requires.ends c.args.at c.entry_at.result c.entry_at.ensures c.in-Rule.number (proof c.in-Some.certificate.now) c.in-Some.ensures.value p s)))
    c.emit_certificate.ensures

pub emit-returns-in_ok-push-in-None : goal.emit-returns-in_ok-push-in-None
emit-returns-in_ok-push-in-None t c =
    let a = set_in c.args.listing.now in
    IfOk-weaker c.emit_kids.result _ _
    (λ x f p h.
    let s = rule-at a c.args.listing.now.list.now c.args.listing.now.ends.now c.requires.ends c.args.at c.entry_at.result c.entry_at.ensures c.in-Rule.number c.in-Rule.is p h in
    f s.kids s.up.row (s.up.sum ∙ sym c.number_at-end.ensures)
    ∙ entries-push c.args.into.now.items c.push.new.self.items (Rule c.in-Rule.number) (all_entries (lowered_orders a s.kids)) c.in_ok-push-in-None.ensures.items
    ∙ ap (λ (xs : List Entry). entries c.args.into.now.items ++ xs) (sym (basic-is a c.args.listing.now.list.now c.args.listing.now.ends.now c.requires.ends c.args.at c.entry_at.result c.entry_at.ensures c.in-Rule.number c.in-None.ensures.value p s)))
    c.emit_kids.ensures

pub emit-returns-in_ok-push-in-Given : goal.emit-returns-in_ok-push-in-Given
emit-returns-in_ok-push-in-Given t c = λ p h.
    entries-one c.args.into.now.items c.push-in-Given.new.self.items (Given c.in-Given.number) c.in_ok-push-in-Given.ensures.items
    ∙ ap (λ (x : List Entry). entries c.args.into.now.items ++ x) (sym (given-is (set_in c.args.listing.now) c.args.listing.now.list.now c.args.listing.now.ends.now c.requires.ends c.args.at c.entry_at.result c.entry_at.ensures c.in-Given.number c.in-Given.is p h))

pub emit_certificate-loop-kid-init : goal.emit_certificate-loop-kid-init
emit_certificate-loop-kid-init t c = λ ps h.
    grafted-opens (lowered_orders (set_in c.args.listing.now) ps) c.args.certificate.now c.in-By.rule c.in-By.binds c.in-By.kids c.deref-kid-items.result.now c.in-By.is c.deref-kid-items.ensures.value c.args.into.now.items c.push.new.self.items c.in_ok-push-in-By.ensures.items

pub emit_certificate-emit_certificate-requires : goal.emit_certificate-emit_certificate-requires
emit_certificate-emit_certificate-requires t c =
    let k = height_of-kid _ _ _ _ _ c.in-By.is c.deref-kid-items.ensures.value _ _ _ c.loop-kid-test.true c.kid-item.is c.deref.ensures in
    let h = c.requires.height in
    (search rules, (c.requires.ends, (omega (arith, k, h), c.requires.stand)))

pub emit_certificate-loop-kid-preserved : goal.emit_certificate-loop-kid-preserved
emit_certificate-loop-kid-preserved t c = λ ps h.
    grafted-on (lowered_orders (set_in c.args.listing.now) ps) _ _ _ _ c.loop-kid.into.items c.emit_certificate.new.into.items _ c.loop-kid-test.true c.kid-item.is c.deref.ensures (c.in_ok-emit_certificate-in-By.ensures ps h) (c.loop-kid.invariant ps h)

pub emit_certificate-emit-requires : goal.emit_certificate-emit-requires
emit_certificate-emit-requires t c =
    let r = c.requires.stand in
    let p = placed-at (set_in c.args.listing.now) (entries_in c.args.listing.now) c.args.places.now r.0 c.in-Given.number r.1 c.if-given-places.true in
    let e = c.number_at.ensures in
    let low = left-at (length c.args.listing.now.list.now) c.args.places.now c.in-Given.number c.if-given-places.true in
    (search rules, (c.requires.ends, (p.one, subst (λ (n : ℕ). StandsIn c.args.listing.now n p.one) (sym e) p.listed)))

pub emit_certificate-returns-then-given-places : goal.emit_certificate-returns-then-given-places
emit_certificate-returns-then-given-places t c =
    let a = set_in c.args.listing.now in
    IfOk-weaker c.emit.result _ _
    (λ x f ps h.
    let p = placed-at a (entries_in c.args.listing.now) c.args.places.now ps c.in-Given.number h c.if-given-places.true in
    f p.one (subst (λ (n : ℕ). StandsIn c.args.listing.now n p.one) (sym c.number_at.ensures) p.listed)
    ∙ ap (λ (xs : List Entry). entries c.args.into.now.items ++ xs) (sym (p.order (of_given c.in-Given.number ∷ [])))
    ∙ ap (λ (q : ProofOf). entries c.args.into.now.items ++ grafted_order (lowered_orders a ps) (proof q)) (sym c.in-Given.is))
    c.emit.ensures

pub emit_certificate-returns-in_ok-push-in-Given : goal.emit_certificate-returns-in_ok-push-in-Given
emit_certificate-returns-in_ok-push-in-Given t c = λ ps h.
    let a = set_in c.args.listing.now in
    entries-one c.args.into.now.items c.push-in-Given.new.self.items (Given c.in-Given.number) c.in_ok-push-in-Given.ensures.items
    ∙ ap (λ (xs : List Entry). entries c.args.into.now.items ++ xs) (sym (never-placed a (entries_in c.args.listing.now) c.args.places.now ps c.in-Given.number (of_given c.in-Given.number ∷ []) h c.if-given-places.false))
    ∙ ap (λ (q : ProofOf). entries c.args.into.now.items ++ grafted_order (lowered_orders a ps) (proof q)) (sym c.in-Given.is)

pub emit_kids-emit-requires : goal.emit_kids-emit-requires
emit_kids-emit-requires t c =
    let h = (next_in_row t (goal.at.emit_kids-emit-requires t c).In-loop-at).1 in
    let o = c.loop-at.invariant.on in
    let w = h.within in
    (search rules, (c.requires.ends, (h.first, h.listed)))

pub emit_kids-number_at-at-requires : goal.emit_kids-number_at-at-requires
emit_kids-number_at-at-requires t c =
    (next_in_row t (goal.at.emit_kids-number_at-at-requires t c).In-loop-at).1.within

pub emit_kids-loop-at-smaller : goal.emit_kids-loop-at-smaller
emit_kids-loop-at-smaller t c =
    let h = (next_in_row t (goal.at.emit_kids-loop-at-smaller t c).In-loop-at).1 in
    let e = c.number_at-at.ensures in
    let l : c.args.end - c.number_at-at.result < c.args.end - c.loop-at.at = (let m = h.more in let k = c.loop-at-test.true in omega (arith, e, m, k)) in l

pub emit_kids-loop-at-preserved : goal.emit_kids-loop-at-preserved
emit_kids-loop-at-preserved t c =
    let a = set_in c.args.listing.now in
    let list = entries_in c.args.listing.now in
    let ends = c.args.listing.now.ends.now in
    let e = c.number_at-at.ensures in
    let m = (next_in_row t (goal.at.emit_kids-loop-at-preserved t c).In-loop-at).1.more in
    let o = c.loop-at.invariant.on in
    record {
      writing = subst (λ (n : ℕ). Writing a list c.args.first c.args.end n c.args.into.now.items c.emit.new.into.items) (sym e)
          (writing-more a list ends c.args.first c.args.end c.loop-at.at c.args.into.now.items c.loop-at.into.items c.emit.new.into.items c.requires.ends c.loop-at-test.true c.in_ok-emit.ensures c.loop-at.invariant.writing);
      on = omega (arith, e, m, o);
    }

pub emit_kids-returns : goal.emit_kids-returns
emit_kids-returns t c = λ ps row sum.
    writing-last (set_in c.args.listing.now) (entries_in c.args.listing.now) c.args.first c.args.end c.loop-at.at c.args.into.now.items c.loop-at.into.items c.loop-at-test.false c.loop-at.invariant.writing ps (record { row = row; sum = sum })
