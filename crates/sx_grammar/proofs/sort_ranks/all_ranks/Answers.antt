use Rattle.std.proofs.Common.{◌<◌, ◌^◌, ◌∙◌, ◌++◌, ◌∷◌, [], ap, map, sym, take, Some, None, arith}
use Rattle.std.proofs.lemmas.List.{map-append, take_more, take_all}
use Rattle.sx_grammar.proofs.sort_ranks.all_ranks.Goals as goal

pub returns-in_default : goal.returns-in_default
returns-in_default c = (c.loop-rank.rank-index, c.loop-rank-test.true, c.in_default.is)

pub loop-rank-preserved : goal.loop-rank-preserved
loop-rank-preserved c =
    let xs = c.args.ranks.now in
    let n = c.loop-rank.rank-index in
    let last = c.in-Some.number ∷ [] in
    ap (map Some) c.in_ok-push.ensures.items ∙ map-append Some c.loop-rank.out.items last ∙ ap (λ l. l ++ map Some last) c.loop-rank.invariant
    ∙ ap (λ r. take n xs ++ r ∷ []) (sym c.in-Some.is) ∙ sym (take_more xs n None c.loop-rank-test.true)

pub overflow_cast-number : goal.overflow_cast-number
overflow_cast-number c =
    let low : c.in-Some.number < 2 ^ 32 = c.requires c.loop-rank.rank-index c.in-Some.number c.in-Some.is in
    omega (arith, low)

pub returns : goal.returns
returns c = c.loop-rank.invariant ∙ take_all c.loop-rank.rank-index c.args.ranks.now (omega (arith, c.loop-rank-test.false))
