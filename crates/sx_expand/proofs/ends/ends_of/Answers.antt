use Rattle.std.proofs.Common.{◌≡◌, ◌+◌, ◌-◌, ◌<◌, ℕ, length, arith, subst}
use Rattle.std.proofs.lemmas.List.{length-map}
use Rattle.sx_rules.specs.EntryView.{entry, entries}
use Rattle.sx_rewrite.specs.AcceptedView.{accepted}
use Rattle.sx_expand.specs.Standing.{AreEndsFrom}
use Rattle.sx_expand.proofs.Standing.{some-listed}
use Rattle.sx_expand.proofs.Steps.{ends-none, ends-more}
use Rattle.sx_expand.proofs.ends.ends_of.Goals as goal

pub loop-left-init : goal.loop-left-init
loop-left-init c =
    let e = c.in_ok-ends.ensures.len in
    let k = c.in_ok-ends.ends.ok.0 in
    let m = length-map c.args.list.now entry in
    let many : length c.in_ok-ends.ends.items ≡ length (entries c.args.list.now) = omega (arith, e, k, m) in
    (omega arith, subst (λ (n : ℕ). AreEndsFrom (accepted c.args.set.now) (entries c.args.list.now) n c.in_ok-ends.ends.items) m (ends-none (accepted c.args.set.now) (entries c.args.list.now) c.in_ok-ends.ends.items many))

pub end_at-end-requires-clause-listed : goal.end_at-end-requires-clause-listed
end_at-end-requires-clause-listed c =
    let r = c.requires in
    let l = c.loop-left-test.true in
    let b = c.loop-left.invariant.0 in
    let m = length-map c.args.list.now entry in
    some-listed (accepted c.args.set.now) (entries c.args.list.now) r.0 (c.loop-left.left - 1) r.1 r.2 (omega (arith, l, b, m))

pub loop-left-preserved : goal.loop-left-preserved
loop-left-preserved c =
    let l = c.loop-left-test.true in
    let b = c.loop-left.invariant.0 in
    let m = length-map c.args.list.now entry in
    let within : c.loop-left.left - 1 < length (entries c.args.list.now) = omega (arith, l, b, m) in
    let on : c.loop-left.left ≡ c.loop-left.left - 1 + 1 = omega (arith, l) in
    let known = subst (λ (n : ℕ). AreEndsFrom (accepted c.args.set.now) (entries c.args.list.now) n c.loop-left.ends.items) on c.loop-left.invariant.1 in
    (omega (arith, b), ends-more (accepted c.args.set.now) (entries c.args.list.now) (c.loop-left.left - 1) c.loop-left.ends.items c.end_at-end.result within known c.end_at-end.ensures)
