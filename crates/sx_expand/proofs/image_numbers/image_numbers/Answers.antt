use Rattle.std.proofs.Common.{ℕ, List, ◌≡◌, ◌+◌, ◌++◌, [], ◌∷◌, sym, subst, ◌≤◌}
use Rattle.sx_term.specs.Tree.{Tree, depth_of}
use Rattle.sx_plain.specs.declared.measure.Measure.{Measure}
use Rattle.sx_plain.specs.Tables.{FitsTable}
use Rattle.sx_plain.specs.Views.{table_of}
use Rattle.sx_arena.specs.Arena.{tree_at}
use Rattle.sx_expand.specs.Readers.{terms_in}
use Rattle.sx_expand.proofs.NumbersPut.{NumbersSoFar, no-numbers, bound-within, bound-is, numbers-step, numbers-end, shallow-at, fits-at}
use Rattle.sx_expand.proofs.image_numbers.image_numbers.Goals as goal

pub loop-i-init : goal.loop-i-init
loop-i-init c = no-numbers _ _ _ _ _ _ c.requires.reader c.in_ok-numbers.ensures.items c.in_ok-measures.ensures.items

pub put_image-requires-clause-within : goal.put_image-requires-clause-within
put_image-requires-clause-within c =
    bound-within (table_of c.args.table.now) c.args.sorts.now c.args.reader.now c.loop-i.reader c.args.binds.now c.loop-i.i c.loop-i.numbers.items c.loop-i.measures.items c.loop-i.invariant c.requires.below
    c.number_at.result c.loop-i-test.true c.number_at.ensures

pub put_image-requires-clause-shallow : goal.put_image-requires-clause-shallow
put_image-requires-clause-shallow c =
    let is = bound-is (table_of c.args.table.now) c.args.sorts.now c.args.reader.now c.loop-i.reader c.args.binds.now c.loop-i.i c.loop-i.numbers.items c.loop-i.measures.items c.loop-i.invariant c.requires.below
    c.number_at.result c.loop-i-test.true c.number_at.ensures in
    subst (λ (t : Tree). depth_of t ≤ 1000) (sym is) (shallow-at (tree_at (terms_in c.args.reader.now)) c.args.binds.now c.loop-i.i c.number_at.result c.requires.shallow c.loop-i-test.true c.number_at.ensures)

pub put_image-requires-clause-fits : goal.put_image-requires-clause-fits
put_image-requires-clause-fits c =
    let is = bound-is (table_of c.args.table.now) c.args.sorts.now c.args.reader.now c.loop-i.reader c.args.binds.now c.loop-i.i c.loop-i.numbers.items c.loop-i.measures.items c.loop-i.invariant c.requires.below
    c.number_at.result c.loop-i-test.true c.number_at.ensures in
    subst (λ (t : Tree). FitsTable (table_of c.args.table.now) t) (sym is)
    (fits-at (table_of c.args.table.now) (tree_at (terms_in c.args.reader.now)) c.args.binds.now c.loop-i.i c.number_at.result c.requires.fit c.loop-i-test.true c.number_at.ensures)

pub loop-i-preserved : goal.loop-i-preserved
loop-i-preserved c =
    let table = table_of c.args.table.now in
    let ns = c.loop-i.numbers.items in
    let ms = c.loop-i.measures.items in
    let p = c.in_ok-put.put in
    let next = c.put_image.new.reader in
    let step = numbers-step table c.args.sorts.now c.args.reader.now c.loop-i.reader c.args.binds.now c.loop-i.i ns ms c.loop-i.invariant c.requires.below
    c.number_at.result c.loop-i-test.true c.number_at.ensures next c.sort_at-sort.result p c.requires.many c.sort_at-sort.ensures c.in_ok-put.ensures.0 c.in_ok-put.ensures.1 in
    let numbers : c.push.new.self.items ≡ ns ++ p.number ∷ [] = c.in_ok-push.ensures.items in
    let measures : c.push-in-loop-i.new.self.items ≡ ms ++ p.measure ∷ [] = c.in_ok-push-2.ensures.items in
    subst (λ (xs : List ℕ). NumbersSoFar table c.args.sorts.now c.args.reader.now next c.args.binds.now (c.loop-i.i + 1) xs c.push-in-loop-i.new.self.items) (sym numbers)
    (subst (λ (xs : List Measure). NumbersSoFar table c.args.sorts.now c.args.reader.now next c.args.binds.now (c.loop-i.i + 1) (ns ++ p.number ∷ []) xs) (sym measures) step)

pub returns : goal.returns
returns c = numbers-end (table_of c.args.table.now) c.args.sorts.now c.args.reader.now c.loop-i.reader c.args.binds.now c.loop-i.i c.loop-i.numbers.items c.loop-i.measures.items c.loop-i.invariant c.loop-i-test.false
