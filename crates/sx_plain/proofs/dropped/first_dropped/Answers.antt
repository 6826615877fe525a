use Rattle.std.proofs.Common.{◌≡◌, ◌∙◌, ◌-◌, ◌+◌, ◌^◌, min, arith}
use Rattle.sx_term.specs.Term.{tree}
use Rattle.sx_term.specs.Tree.{size_of}
use Rattle.sx_plain.proofs.MarkLaws.{dropped-is, marks-few}
use Rattle.sx_plain.proofs.dropped.first_dropped.Goals as goal

pub first_unmarked-requires : goal.first_unmarked-requires
first_unmarked-requires c =
    let f = c.from.ensures in
    let m = c.min-most.ensures in
    let n = marks-few c.min-most.result (tree c.args.term.now) c.in_ok-marks.marks.items c.deref.result.now c.in_ok-marks.ensures (c.deref.ensures.value ∙ c.mark.ensures) in
    let a = c.ranges.arity.fits in
    grind arith

pub returns : goal.returns
returns c =
    let f = c.from.ensures in
    let s = c.size.ensures in
    let d = c.saturating_add.ensures in
    let e = c.min-most.ensures in
    let m : c.min-most.result ≡ min c.args.arity (min (min (size_of (tree c.args.term.now)) (2 ^ 64 - 1) + 1) (2 ^ 64 - 1)) = grind arith in
    dropped-is c.args.arity c.min-most.result (tree c.args.term.now) c.in_ok-marks.marks.items c.deref.result.now c.first_unmarked.result m c.ranges.arity.fits c.in_ok-marks.ensures (c.deref.ensures.value ∙ c.mark.ensures) c.first_unmarked.ensures
