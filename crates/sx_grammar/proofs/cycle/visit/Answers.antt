use Rattle.std.proofs.Common.{◌+◌, ◌∙◌, ap, Some, get_or, sym, subst, arith}
use Rattle.std.proofs.lemmas.List.Elements.{Contains-get_or}
use Rattle.std.proofs.lemmas.Option.{slice_get-get_or}
use Rattle.sx_grammar.proofs.Searching.{VisitBefore, visit_marked, visit_kept}
use Rattle.sx_grammar.proofs.cycle.visit.Goals as goal
use Rattle.sx_grammar.proofs.cycle.visit.Goals.{then-not-marks-sort+in_ok-push, else-not-marks-sort}

pub bounds-marks-sort : goal.bounds-marks-sort
bounds-marks-sort c =
    let low = c.requires (get_or c.args.sorts.now c.loop-sort.sort-index 0) (Contains-get_or c.args.sorts.now c.loop-sort.sort-index 0 c.loop-sort-test.true) in
    omega (arith, low, c.loop-sort.invariant.same)

pub bounds-marks-sort-then-not-marks-sort : goal.bounds-marks-sort-then-not-marks-sort
bounds-marks-sort-then-not-marks-sort c =
    let low = c.requires (get_or c.args.sorts.now c.loop-sort.sort-index 0) (Contains-get_or c.args.sorts.now c.loop-sort.sort-index 0 c.loop-sort-test.true) in
    omega (arith, low, c.loop-sort.invariant.same)

pub loop-sort-preserved : goal.loop-sort-preserved
loop-sort-preserved c =
    let xs = c.args.sorts.now in
    let n = c.loop-sort.sort-index in
    let s = get_or xs n 0 in
    let at = slice_get-get_or xs n 0 c.loop-sort-test.true in
    let low = c.requires s (Contains-get_or xs n 0 c.loop-sort-test.true) in
    elim c.if-not-marks-sort.branch [
      | then-not-marks-sort+in_ok-push w ↦ subst (λ v. VisitBefore xs c.args.marks.now c.if-not-marks-sort.marks c.args.stack.now.items v.items (n + 1)) (sym w.stack-is)
          (visit_marked xs c.args.marks.now c.loop-sort.marks c.if-not-marks-sort.marks c.args.stack.now.items c.loop-sort.stack.items w.push.new.self.items n s c.loop-sort.invariant at
          (omega (arith, low, c.loop-sort.invariant.same)) w.if-not-marks-sort.true w.marks-is w.in_ok-push.ensures.items)
      | else-not-marks-sort w ↦ subst (λ v. VisitBefore xs c.args.marks.now c.if-not-marks-sort.marks c.args.stack.now.items v.items (n + 1)) (sym w.stack-is) (subst (λ m. VisitBefore xs c.args.marks.now m c.args.stack.now.items c.loop-sort.stack.items (n + 1)) (sym w.marks-is)
          (visit_kept xs c.args.marks.now c.loop-sort.marks c.args.stack.now.items c.loop-sort.stack.items n s c.loop-sort.invariant at w.if-not-marks-sort.false))
    ]

pub returns-clause-all : goal.returns-clause-all
returns-clause-all c = λ t has. c.loop-sort.invariant.all has.0 t (omega (arith, has.1, c.loop-sort-test.false)) (slice_get-get_or c.args.sorts.now has.0 t has.1 ∙ ap Some has.2)
