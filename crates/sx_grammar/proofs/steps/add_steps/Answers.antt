use Rattle.std.proofs.Common.{get_or, sym, subst, ap, ◌∙◌, ◌+◌, ⊎_elim, inl, inr, arith}
use Rattle.std.proofs.lemmas.Option.{slice_get-get_or, slice_get_within}
use Rattle.sx_grammar.specs.declared.numbered.NumberedSymbol.TheVariants.{Lit}
use Rattle.sx_grammar.specs.Cycles.{unmarked}
use Rattle.sx_grammar.proofs.Stepping.{FiledBefore, filed_more, filed_kept, one_sort, target_of, target_seen}
use Rattle.sx_grammar.proofs.steps.add_steps.Goals as goal
use Rattle.sx_grammar.proofs.steps.add_steps.Goals.{in-Some+in_ok-file, in_default}

pub loop-symbol-preserved : goal.loop-symbol-preserved
loop-symbol-preserved c =
    let xs = c.deref-symbol-items.result.now in
    let n = c.loop-symbol.symbol-index in
    let s = get_or xs n (Lit 0) in
    let at = slice_get-get_or xs n (Lit 0) c.loop-symbol-test.true in
    elim c.match-target.branch [
      | in-Some+in_ok-file w ↦ subst (λ v. FiledBefore c.args.marks.now c.unmarked-count.result c.args.production.now.sort xs c.args.steps.now.items v.items (n + 1)) (sym w.steps-is)
          (filed_more c.args.marks.now c.unmarked-count.result c.args.production.now.sort n w.in-Some.sort xs c.args.steps.now.items c.loop-symbol.steps.items w.file.new.lists.items s
          c.loop-symbol.invariant at w.in-Some.ensures w.in_ok-file.ensures.same w.in_ok-file.ensures.there w.in_ok-file.ensures.kept w.in_ok-file.ensures.only
          (λ x other. one_sort c.args.marks.now c.unmarked-count.result w.in-Some.sort x s w.in-Some.ensures other))
      | in_default w ↦ subst (λ v. FiledBefore c.args.marks.now c.unmarked-count.result c.args.production.now.sort xs c.args.steps.now.items v.items (n + 1)) (sym w.steps-is)
          (filed_kept c.args.marks.now c.unmarked-count.result c.args.production.now.sort n xs c.args.steps.now.items c.loop-symbol.steps.items s c.loop-symbol.invariant at w.in_default.ensures)
    ]

pub returns-clause-only : goal.returns-clause-only
returns-clause-only c = λ p x has.
    let items = c.args.production.now.symbols.items in
    let count = c.unmarked-count.ensures ∙ ap (unmarked c.args.marks.now) c.deref.ensures.value in
    ⊎_elim (λ was. inl was) (λ e. inr (e.0, target_of c.args.marks.now c.unmarked-count.result x c.deref-symbol-items.result.now items c.deref-symbol-items.ensures.value count e.1)) (c.loop-symbol.invariant.only p x has)

pub returns-clause-all : goal.returns-clause-all
returns-clause-all c = λ x is.
    let xs = c.deref-symbol-items.result.now in
    let count = c.unmarked-count.ensures ∙ ap (unmarked c.args.marks.now) c.deref.ensures.value in
    let seen = target_seen c.args.marks.now c.unmarked-count.result x xs c.args.production.now.symbols.items c.deref-symbol-items.ensures.value count is in
    c.loop-symbol.invariant.all seen.0 x seen.1 (let within = slice_get_within xs seen.0 seen.1 seen.2 in omega (arith, within, c.loop-symbol-test.false)) seen.2 seen.3
