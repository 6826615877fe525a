use Rattle.std.proofs.Common.{◌≡◌, ◌∙◌, get_or, sym, ap, rules}
use Rattle.std.proofs.lemmas.Option.{slice_get-get_or, same_Some}
use Rattle.sx_forest.proofs.span_ways.index_of.Goals as goal

pub returns-then-kept-index : goal.returns-then-kept-index
returns-then-kept-index c =
    let all = c.args.kept.now in let n = c.loop-index.index in let low = c.loop-index-test.true in
    let one = get_or all n c.index-kept-index.result in let other = get_or all n c.index-kept-index-then-eq.result in
    let there = slice_get-get_or all n c.index-kept-index.result low in
    let same : other ≡ one = same_Some other one (sym (slice_get-get_or all n c.index-kept-index-then-eq.result low) ∙ there) in
    let head : one.head ≡ c.args.head = search rules in
    (one, there, head, ap (λ k. k.to) (sym same) ∙ c.if-kept-index.true)
