use Rattle.std.proofs.Common.{◌≡◌, ◌<◌, ◌≤◌, List, ◌∷◌, [], length, map, get_or, refl, subst}
use Rattle.sx_grammar.specs.declared.sort_line.SortLine.{SortLine}
use Rattle.sx_grammar.proofs.LoopLaws.{added_more, added_all}
use Rattle.sx_grammar.proofs.standing.names.Goals as goal

pub loop-sort-preserved : goal.loop-sort-preserved
loop-sort-preserved c =
    let same = c.deref-sort-items.ensures.value in
    let i = c.loop-sort.sort-index in
    let x = c.sort-item.result in
    let lt = subst (λ (l : List SortLine). i < length l) same c.loop-sort-test.true in
    let at = subst (λ (l : List SortLine). x ≡ get_or l i x) same c.sort-item.is in
    added_more (map (λ (s : SortLine). s.name)) _ _ _ (x.name ∷ []) c.args.from.now.sorts.items i x c.loop-sort.invariant c.in_ok-put.ensures refl lt at

pub returns : goal.returns
returns c =
    added_all (map (λ (s : SortLine). s.name)) _ _ c.args.from.now.sorts.items c.loop-sort.sort-index c.loop-sort.invariant refl
    (subst (λ (l : List SortLine). length l ≤ c.loop-sort.sort-index) c.deref-sort-items.ensures.value c.loop-sort-test.false)
