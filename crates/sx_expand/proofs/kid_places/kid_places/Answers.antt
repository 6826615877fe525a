use Rattle.std.proofs.Common.{ℕ, ◌-◌, ◌<◌, sym, subst, arith}
use Rattle.sx_rules.specs.Derivations.{Proofs}
use Rattle.sx_expand.specs.Listed.{set_in, entries_in}
use Rattle.sx_expand.specs.Steps.{AreNotBelow}
use Rattle.sx_expand.proofs.Rows.{IsHead, head-is}
use Rattle.sx_expand.proofs.Placing.{Placing, placing-first, placing-more, placing-last, from-push}
use Rattle.sx_expand.proofs.kid_places.kid_places.Goals as goal
use Rattle.sx_expand.proofs.kid_places.kid_places.Goals.{In-loop-at}

-- the next of the row that stands in the list
next_in_row : (c : In-loop-at) → (left : Proofs) × IsHead (set_in c.args.listing.now) (entries_in c.args.listing.now) c.args.listing.now.ends.now c.loop-at.at c.args.end left
next_in_row c =
    let r = c.requires.stand in
    let s = c.loop-at.invariant.placing r.0 (record { row = r.1; sum = r.2 }) in
    (s.left, head-is (set_in c.args.listing.now) (entries_in c.args.listing.now) c.args.listing.now.ends.now c.loop-at.at c.args.end s.left c.requires.ends c.loop-at-test.true s.up)

pub loop-at-init : goal.loop-at-init
loop-at-init c = record {
  placing = placing-first (set_in c.args.listing.now) (entries_in c.args.listing.now) c.args.first c.args.end c.new-places.result.items c.new-places.ensures.items;
  after = subst (AreNotBelow c.args.first) (sym c.new-places.ensures.items) tt;
  on = omega arith;
}

pub number_at-at-requires : goal.number_at-at-requires
number_at-at-requires c =
    (next_in_row (goal.at.number_at-at-requires c).In-loop-at).1.within

pub loop-at-smaller : goal.loop-at-smaller
loop-at-smaller c =
    let h = (next_in_row (goal.at.loop-at-smaller c).In-loop-at).1 in
    let e = c.number_at-at.ensures in
    let l : c.args.end - c.number_at-at.result < c.args.end - c.loop-at.at = (let m = h.more in let t = c.loop-at-test.true in omega (arith, e, m, t)) in l

pub loop-at-preserved : goal.loop-at-preserved
loop-at-preserved c =
    let a = set_in c.args.listing.now in
    let list = entries_in c.args.listing.now in
    let ends = c.args.listing.now.ends.now in
    let e = c.number_at-at.ensures in
    let m = (next_in_row (goal.at.loop-at-preserved c).In-loop-at).1.more in
    let o = c.loop-at.invariant.on in
    record {
      placing = subst (λ (n : ℕ). Placing a list c.args.first c.args.end n c.push.new.self.items) (sym e)
          (placing-more a list ends c.args.first c.args.end c.loop-at.at c.loop-at.places.items c.push.new.self.items c.requires.ends c.loop-at-test.true c.in_ok-push.ensures.items c.loop-at.invariant.placing);
      after = from-push c.args.first c.loop-at.at c.loop-at.places.items c.push.new.self.items c.in_ok-push.ensures.items o c.loop-at.invariant.after;
      on = omega (arith, e, m, o);
    }

pub returns-clause-stand : goal.returns-clause-stand
returns-clause-stand c = λ ps row sum.
    placing-last (set_in c.args.listing.now) (entries_in c.args.listing.now) c.args.first c.args.end c.loop-at.at c.loop-at.places.items c.loop-at-test.false c.loop-at.invariant.placing ps (record { row = row; sum = sum })
