use Rattle.std.proofs.Common.{None, ◌∷◌, [], ◌++◌, ◌∙◌, map, take, get_or, sym, ap, arith}
use Rattle.std.specs.Prelude.{is_some}
use Rattle.std.proofs.lemmas.List.{map-append, take_more, take_all}
use Rattle.sx_grammar.proofs.empty_sorts.marks.Goals as goal

pub loop-rank-preserved : goal.loop-rank-preserved
loop-rank-preserved c =
    let xs = c.args.ranks.now in
    let n = c.loop-rank.rank-index in
    c.in_ok-push.ensures.items ∙ ap (λ l. l ++ c.is_some.result ∷ []) c.loop-rank.invariant ∙ ap (λ b. map is_some (take n xs) ++ b ∷ []) c.is_some.ensures
    ∙ sym (map-append is_some (take n xs) (get_or xs n None ∷ [])) ∙ ap (map is_some) (sym (take_more xs n None c.loop-rank-test.true))

pub returns : goal.returns
returns c = c.loop-rank.invariant ∙ ap (map is_some) (take_all c.loop-rank.rank-index c.args.ranks.now (omega (arith, c.loop-rank-test.false)))
