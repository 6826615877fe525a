use Rattle.std.proofs.Common.{◌≡◌, ◌<◌, ℕ, map, length, refl, sym, ap, ◌∙◌, subst, arith}
use Rattle.std.specs.Prelude.{Some, slice_get}
use Rattle.std.proofs.lemmas.Option.{slice_get-get_or, slice_get_past}
use Rattle.sx_interface.specs.InterfaceView.{mark_view}
use Rattle.sx_verify.specs.BaseFits.{mark_names}
use Rattle.sx_verify.proofs.BaseNames.{all_same, same_next, first_here, same_at, other_at, none_at}
use Rattle.sx_verify.proofs.BaseNames.{missing, no_more}
use Rattle.sx_verify.proofs.base_fits.first_other.Goals as goal

pub loop-i-init : goal.loop-i-init
loop-i-init c = λ other lt. absurd (omega (arith, lt))

pub returns-then-not-same-clause-other : goal.returns-then-not-same-clause-other
returns-then-not-same-clause-other c =
    let names = c.args.names.now in
    let marks = c.args.marks.now in
    let mark = c.in-Some.mark.now in
    let i = c.loop-i.i in
    let there = c.in-Some.ensures.lookup.3 in
    let at : slice_get marks i ≡ Some mark =
    slice_get-get_or marks i mark there.0 ∙ ap Some (sym (there.1 mark)) in
    first_here names (mark_names (map mark_view marks)) i c.loop-i.invariant
    (other_at marks names i c.index-names-i.result c.loop-i-test.true c.index-names-i.is mark at
    (λ same. let e = c.if-not-same.ensures.1 same in absurd cc))

pub returns-in-None-clause-other : goal.returns-in-None-clause-other
returns-in-None-clause-other c =
    let names = c.args.names.now in
    let marks = c.args.marks.now in
    let i = c.loop-i.i in
    first_here names (mark_names (map mark_view marks)) i c.loop-i.invariant
    (none_at marks names i c.index-names-i.result c.loop-i-test.true c.index-names-i.is
    (slice_get_past marks i c.in-None.ensures.lookup.3))

pub loop-i-preserved : goal.loop-i-preserved
loop-i-preserved c =
    let names = c.args.names.now in
    let marks = c.args.marks.now in
    let mark = c.in-Some.mark.now in
    let i = c.loop-i.i in
    let there = c.in-Some.ensures.lookup.3 in
    let at : slice_get marks i ≡ Some mark =
    slice_get-get_or marks i mark there.0 ∙ ap Some (sym (there.1 mark)) in
    same_next names (mark_names (map mark_view marks)) i c.loop-i.invariant
    (same_at marks names i c.index-names-i.result c.loop-i-test.true c.index-names-i.is mark at
    (c.if-not-same.ensures.0 refl))

pub returns-then-names-marks-clause-other : goal.returns-then-names-marks-clause-other
returns-then-names-marks-clause-other c =
    let names = c.args.names.now in
    let marks = c.args.marks.now in
    let end : c.loop-i.i ≡ length names =
    (let fits = c.loop-i.auto.i-end in omega (arith, fits, c.loop-i-test.false)) in
    let more = c.if-names-marks.true in
    let due = mark_names (map mark_view marks) in
    let same = subst (λ (i : ℕ). (other : ℕ) → other < i →
    slice_get names other ≡ slice_get due other) end c.loop-i.invariant in
    first_here names due (length names) same (missing marks names more)

pub returns-clause-same : goal.returns-clause-same
returns-clause-same c =
    let names = c.args.names.now in
    let marks = c.args.marks.now in
    let due = mark_names (map mark_view marks) in
    let end : c.loop-i.i ≡ length names =
    (let fits = c.loop-i.auto.i-end in omega (arith, fits, c.loop-i-test.false)) in
    let same = subst (λ (i : ℕ). (other : ℕ) → other < i →
    slice_get names other ≡ slice_get due other) end c.loop-i.invariant in
    all_same names due same (no_more marks names (omega (arith, c.if-names-marks.false)))
