use Rattle.std.proofs.Common.{take, ◌+◌, refl, length, subst, sym}
use Rattle.std.proofs.lemmas.List.{take_all}
use Rattle.std.proofs.lemmas.Option.{slice_get_read}
use Rattle.sx_grammar.specs.Tables.{AreNumberedPairs}
use Rattle.sx_grammar.proofs.NumberLaws.{item_in, pairs_more}
use Rattle.sx_grammar.proofs.numbering.number_brackets.Goals as goal

pub number_pair-requires-clause-known : goal.number_pair-requires-clause-known
number_pair-requires-clause-known c =
    c.requires.known c.sort-item.result (item_in c.args.sorts.now c.loop-sort.sort-index c.sort-item.result c.loop-sort-test.true c.sort-item.is)

pub loop-sort-preserved : goal.loop-sort-preserved
loop-sort-preserved c =
    let xs = c.args.sorts.now in
    let n = c.loop-sort.sort-index in
    let at = slice_get_read xs (length xs) n c.sort-item.result refl c.loop-sort-test.true c.sort-item.is in
    subst (AreNumberedPairs c.args.literals.now (take (n + 1) xs)) (sym c.in_ok-push.ensures.items)
    (pairs_more c.args.literals.now xs n c.loop-sort.out.items c.sort-item.result c.number_pair.result c.loop-sort.invariant at c.number_pair.ensures)

pub returns : goal.returns
returns c = subst (λ ss. AreNumberedPairs c.args.literals.now ss c.loop-sort.out.items) (take_all c.loop-sort.sort-index c.args.sorts.now c.loop-sort-test.false) c.loop-sort.invariant
