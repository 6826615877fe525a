use Rattle.std.proofs.Common.{rules, arith, ◌≡◌, ℕ, ◌+◌, ◌-◌, ◌<◌, List, length, get_or, max, ap, sym, subst, ◌∙◌}
use Rattle.std.proofs.lemmas.List.{length-map, get_or_default}
use Rattle.sx_rules.specs.Derivations.{Proof, Proofs, height_of, most_height}
use Rattle.sx_rules.specs.EntryView.{entry}
use Rattle.sx_rewrite.specs.declared.given_use.GivenUse.{GivenUse}
use Rattle.sx_rewrite.proofs.SizeLaws.{near-at}
use Rattle.sx_rewrite.proofs.Tallied.{sized-many, by-height, sized-tally, base-tally, given-tally, with-unused}
use Rattle.sx_expand.specs.Listed.{set_in, entries_in, StandsIn}
use Rattle.sx_expand.proofs.Standing.{given-stands}
use Rattle.sx_expand.proofs.EndsAt.{listed-within}
use Rattle.sx_expand.proofs.Rows.{IsHead, head-is}
use Rattle.sx_expand.proofs.Emitting.{IsRuleAt, rule-at}
use Rattle.sx_expand.proofs.ListTallies.{IsNextKid, Sizing, Basing, next-kid, some-left, sizing-more, sizing-last, basing-more, basing-last}
use Rattle.sx_expand.proofs.tallying.+tallied.Goals as goal
use Rattle.sx_expand.proofs.tallying.+tallied.Goals.{tally-Start, tally-In-Rule, base_tally-In-loop-at, certificate_tally-In-loop-given}

-- the entry is in the list
entry_is_there : (t : ℕ) (c : tally-Start t) → c.args.at < length c.args.listing.now.list.now
entry_is_there t c = listed-within (set_in c.args.listing.now) c.args.listing.now.list.now c.args.at c.requires.stands.0 c.requires.stands.1

-- the rule's node with its kids is listed there
rule_is_listed : (t : ℕ) (c : tally-In-Rule t) (p : Proof) → StandsIn c.args.listing.now c.args.at p → IsRuleAt (set_in c.args.listing.now) c.args.listing.now.list.now c.args.listing.now.ends.now c.requires.ends c.args.at c.entry_at.result c.entry_at.ensures c.in-Rule.number p
rule_is_listed t c p = rule-at (set_in c.args.listing.now) c.args.listing.now.list.now c.args.listing.now.ends.now c.requires.ends c.args.at c.entry_at.result c.entry_at.ensures c.in-Rule.number c.in-Rule.is p

-- the next of the row that stands in the list
next_in_row : (t : ℕ) (c : base_tally-In-loop-at t) → (left : Proofs) × IsHead (set_in c.args.listing.now) (entries_in c.args.listing.now) c.args.listing.now.ends.now c.loop-at.at c.args.end left
next_in_row t c =
    let r = c.requires.stand in
    let s = c.loop-at.invariant.basing r.0 (record { row = r.1; sum = r.2 }) in
    (s.left, head-is (set_in c.args.listing.now) (entries_in c.args.listing.now) c.args.listing.now.ends.now c.loop-at.at c.args.end s.left c.requires.ends c.loop-at-test.true s.up)

-- the next kid that is tallied
kid_to_tally : (t : ℕ) (c : certificate_tally-In-loop-given t) → let r = c.requires.stand in let s = c.loop-given.invariant.sizing r.0 r.1 r.2 in IsNextKid (set_in c.args.listing.now) (entries_in c.args.listing.now) c.args.listing.now.ends.now c.loop-given.at s.left (most_height s.left)
kid_to_tally t c =
    let a = set_in c.args.listing.now in
    let list = entries_in c.args.listing.now in
    let ends = c.args.listing.now.ends.now in
    let size = c.args.size.now in
    let i = c.loop-given.given-index in
    let v = c.deref-given-items.ensures.value in
    let lv = ap length v in
    let b = c.loop-given-test.true in
    let l : i < length size.uses.items = omega (arith, lv, b) in
    let r = c.requires.stand in
    let s = c.loop-given.invariant.sizing r.0 r.1 r.2 in
    next-kid a list ends c.loop-given.at s.left (most_height s.left) c.requires.ends (some-left a list size c.loop-given.at i c.loop-given.all r.0 l s) (omega arith) s.row

pub tally-entry_at-requires : goal.tally-entry_at-requires
tally-entry_at-requires t c = entry_is_there t (goal.at.tally-entry_at-requires t c).Start

pub tally-number_at-end-requires : goal.tally-number_at-end-requires
tally-number_at-end-requires t c =
    let w = entry_is_there t (goal.at.tally-number_at-end-requires t c).Start in
    let m = c.requires.ends.many in
    let k = length-map c.args.listing.now.list.now entry in omega (arith, w, m, k)

pub tally-overflow_add-at : goal.tally-overflow_add-at
tally-overflow_add-at t c =
    let w = entry_is_there t (goal.at.tally-overflow_add-at t c).Start in omega arith

pub tally-overflow_add-at-in-None : goal.tally-overflow_add-at-in-None
tally-overflow_add-at-in-None t c =
    let w = entry_is_there t (goal.at.tally-overflow_add-at-in-None t c).Start in omega arith

pub tally-certificate_tally-requires : goal.tally-certificate_tally-requires
tally-certificate_tally-requires t c =
    let a = set_in c.args.listing.now in
    let r = c.requires.stands in
    let w = entry_is_there t (goal.at.tally-certificate_tally-requires t c).Start in
    let s = rule_is_listed t (goal.at.tally-certificate_tally-requires t c).In-Rule r.0 r.1 in
    let m = sized-many a c.in-Rule.number c.in-Some.size.now s.kids c.in-Some.ensures.value s.fit in
    let h = by-height a r.0 c.in-Rule.number s.binds s.kids s.is in
    let l = r.2 in
    (search rules, (c.requires.ends, ((s.kids, s.up.row, m, omega (arith, h, l)), c.in-Some.ensures.small)))

pub tally-base_tally-requires : goal.tally-base_tally-requires
tally-base_tally-requires t c =
    let a = set_in c.args.listing.now in
    let r = c.requires.stands in
    let w = entry_is_there t (goal.at.tally-base_tally-requires t c).Start in
    let s = rule_is_listed t (goal.at.tally-base_tally-requires t c).In-Rule r.0 r.1 in
    let h = by-height a r.0 c.in-Rule.number s.binds s.kids s.is in
    let l = r.2 in
    (search rules, (c.requires.ends, (s.kids, s.up.row, s.up.sum ∙ sym c.number_at-end.ensures, omega (arith, h, l))))

pub tally-returns-in-Some : goal.tally-returns-in-Some
tally-returns-in-Some t c = λ p q.
    let a = set_in c.args.listing.now in
    let s = rule_is_listed t (goal.at.tally-returns-in-Some t c).In-Rule p q in
    let m = sized-many a c.in-Rule.number c.in-Some.size.now s.kids c.in-Some.ensures.value s.fit in
    sized-tally a p c.in-Rule.number s.binds s.kids s.is c.in-Some.size.now c.in-Some.ensures.value c.in-Some.ensures.only s.fit c.certificate_tally.result (c.certificate_tally.ensures s.kids s.up.row m)

pub tally-returns-in-None : goal.tally-returns-in-None
tally-returns-in-None t c = λ p q.
    let a = set_in c.args.listing.now in
    let s = rule_is_listed t (goal.at.tally-returns-in-None t c).In-Rule p q in
    base-tally a p c.in-Rule.number s.binds s.kids s.is c.in-None.ensures.value s.fit c.base_tally.result (c.base_tally.ensures s.kids s.up.row (s.up.sum ∙ sym c.number_at-end.ensures))

pub tally-returns-in-Given : goal.tally-returns-in-Given
tally-returns-in-Given t c = λ p q.
    given-tally (set_in c.args.listing.now) p _ _ (given-stands c.args.listing.now.list.now c.args.at c.entry_at.result _ p (listed-within (set_in c.args.listing.now) c.args.listing.now.list.now c.args.at p q) c.entry_at.ensures c.in-Given.is q.stands) c.of_one.ensures

pub certificate_tally-with_kid-all-requires : goal.certificate_tally-with_kid-all-requires
certificate_tally-with_kid-all-requires t c =
    let a = set_in c.args.listing.now in
    let list = entries_in c.args.listing.now in
    let ends = c.args.listing.now.ends.now in
    let size = c.args.size.now in
    let i = c.loop-given.given-index in
    let v = c.deref-given-items.ensures.value in
    let lv = ap length v in
    let b = c.loop-given-test.true in
    let l : i < length size.uses.items = omega (arith, lv, b) in
    let r = c.requires.stand in
    let s = c.loop-given.invariant.sizing r.0 r.1 r.2 in
    let k = kid_to_tally t (goal.at.certificate_tally-with_kid-all-requires t c).In-loop-given in
    let none : GivenUse = record { times = 0; above = 0 } in
    let u = get_or c.deref-given-items.result.now i none in
    let e : u ≡ get_or size.uses.items i u = ap (λ (xs : List GivenUse). get_or xs i none) v ∙ get_or_default size.uses.items i none u l in
    let o = c.loop-given.invariant.on in
    let w = k.low in
    let m = s.low in
    let h = r.3 in
    let inside = k.within in
    (search rules, (c.requires.ends, ((k.first, k.listed, omega (arith, w, m, h)), near-at size.uses.items i u l e c.requires.small.2)))

pub certificate_tally-number_at-at-requires : goal.certificate_tally-number_at-at-requires
certificate_tally-number_at-at-requires t c =
    (kid_to_tally t (goal.at.certificate_tally-number_at-at-requires t c).In-loop-given).within

pub certificate_tally-loop-given-preserved : goal.certificate_tally-loop-given-preserved
certificate_tally-loop-given-preserved t c =
    let a = set_in c.args.listing.now in
    let list = entries_in c.args.listing.now in
    let ends = c.args.listing.now.ends.now in
    let size = c.args.size.now in
    let i = c.loop-given.given-index in
    let v = c.deref-given-items.ensures.value in
    let lv = ap length v in
    let b = c.loop-given-test.true in
    let l : i < length size.uses.items = omega (arith, lv, b) in
    let k = kid_to_tally t (goal.at.certificate_tally-loop-given-preserved t c).In-loop-given in
    let none : GivenUse = record { times = 0; above = 0 } in
    let u = get_or c.deref-given-items.result.now i none in
    let e : u ≡ get_or size.uses.items i u = ap (λ (xs : List GivenUse). get_or xs i none) v ∙ get_or_default size.uses.items i none u l in
    let on = c.number_at-at.ensures in
    let m = k.more in
    let o = c.loop-given.invariant.on in
    record {
      sizing = subst (λ (n : ℕ). Sizing a list size c.args.first n (i + 1) c.with_kid-all.result) (sym on)
          (sizing-more a list ends size c.args.first c.loop-given.at i c.loop-given.all c.with_kid-all.result u c.requires.ends l e c.with_kid-all.ensures c.loop-given.invariant.sizing);
      on = omega (arith, on, m, o);
    }

pub base_tally-with_kid-all-requires : goal.base_tally-with_kid-all-requires
base_tally-with_kid-all-requires t c =
    let r = c.requires.stand in
    let s = c.loop-at.invariant.basing r.0 (record { row = r.1; sum = r.2 }) in
    let k = head-is (set_in c.args.listing.now) (entries_in c.args.listing.now) c.args.listing.now.ends.now c.loop-at.at c.args.end s.left c.requires.ends c.loop-at-test.true s.up in
    let o = c.loop-at.invariant.on in
    let e : most_height s.left ≡ max (height_of k.first) (most_height k.rest) = ap most_height k.is in
    let l = s.low in
    let h = r.3 in
    (search rules, (c.requires.ends, ((k.first, k.listed, omega (arith, e, l, h)), omega arith)))

pub base_tally-number_at-at-requires : goal.base_tally-number_at-at-requires
base_tally-number_at-at-requires t c =
    (next_in_row t (goal.at.base_tally-number_at-at-requires t c).In-loop-at).1.within

pub base_tally-loop-at-smaller : goal.base_tally-loop-at-smaller
base_tally-loop-at-smaller t c =
    let k = (next_in_row t (goal.at.base_tally-loop-at-smaller t c).In-loop-at).1 in
    let e = c.number_at-at.ensures in
    let l : c.args.end - c.number_at-at.result < c.args.end - c.loop-at.at = (let m = k.more in let b = c.loop-at-test.true in omega (arith, e, m, b)) in l

pub base_tally-loop-at-preserved : goal.base_tally-loop-at-preserved
base_tally-loop-at-preserved t c =
    let a = set_in c.args.listing.now in
    let list = entries_in c.args.listing.now in
    let ends = c.args.listing.now.ends.now in
    let m = (next_in_row t (goal.at.base_tally-loop-at-preserved t c).In-loop-at).1.more in
    let e = c.number_at-at.ensures in
    let o = c.loop-at.invariant.on in
    record {
      basing = subst (λ (n : ℕ). Basing a list c.args.first c.args.end n c.with_kid-all.result) (sym e)
          (basing-more a list ends c.args.first c.args.end c.loop-at.at c.loop-at.all c.with_kid-all.result c.requires.ends c.loop-at-test.true c.with_kid-all.ensures c.loop-at.invariant.basing);
      on = omega (arith, e, m, o);
    }

pub base_tally-returns : goal.base_tally-returns
base_tally-returns t c = λ ps row sum.
    basing-last (set_in c.args.listing.now) (entries_in c.args.listing.now) c.args.first c.args.end c.loop-at.at c.loop-at.all c.loop-at-test.false c.loop-at.invariant.basing ps (record { row = row; sum = sum })

pub certificate_tally-returns : goal.certificate_tally-returns
certificate_tally-returns t c = λ ps row many.
    let v = ap length c.deref-given-items.ensures.value in
    let b = c.loop-given-test.false in
    sizing-last (set_in c.args.listing.now) (entries_in c.args.listing.now) c.args.size.now c.args.first c.loop-given.at c.loop-given.given-index c.loop-given.all (omega (arith, v, b)) c.loop-given.invariant.sizing ps row many

pub with_kid-with_kid-requires : goal.with_kid-with_kid-requires
with_kid-with_kid-requires t c =
    let q = c.if-given-eq0.false in
    let r = c.requires.stands in
    let s = (c.tally.ensures r.0 r.1).small in
    let l = r.2 in
    record { used = omega (arith, q); near = c.requires.near; low = omega (arith, s, l) }

pub with_kid-returns-then-given-eq0 : goal.with_kid-returns-then-given-eq0
with_kid-returns-then-given-eq0 t c = λ p h. with-unused (set_in c.args.listing.now) c.args.given p c.args.so_far c.if-given-eq0.true (omega arith)

pub with_kid-returns : goal.with_kid-returns
with_kid-returns t c = λ p h. c.with_kid.ensures (set_in c.args.listing.now) p (c.tally.ensures p h)
