use Rattle.std.proofs.Common.{refl, sym, ap, ◌∙◌, subst, length, ◌<◌, arith, Some}
use Rattle.std.proofs.lemmas.Option.{slice_get_read}
use Rattle.sx_grammar.specs.Parts.{parts, numbered}
use Rattle.sx_grammar.specs.Order.{rank_at}
use Rattle.sx_grammar.specs.Sorting.{IsSortOrder}
use Rattle.sx_grammar.specs.Tables.{literals_of}
use Rattle.sx_grammar.proofs.LevelLaws.{parts_below, sorts_below, name_at}
use Rattle.sx_grammar.proofs.Ordering.{ranked_not_cyclic}
use Rattle.sx_grammar.proofs.cyclic.not_cyclic.Goals as goal

pub sort_ranks-requires-clause-heads : goal.sort_ranks-requires-clause-heads
sort_ranks-requires-clause-heads c = sorts_below (parts c.args.from.now) c.args.productions.now c.len.result c.requires.brackets.0.0.0 c.requires.numbered (omega (arith, c.len.ensures))

pub sort_ranks-requires-clause-parts : goal.sort_ranks-requires-clause-parts
sort_ranks-requires-clause-parts c = parts_below (parts c.args.from.now) c.args.productions.now c.len.result c.requires.brackets.0.0.0 c.requires.numbered (omega (arith, c.len.ensures))

pub index-line-requires : goal.index-line-requires
index-line-requires c =
    let p = parts c.args.from.now in
    let found = subst (IsSortOrder (numbered p) c.len.result) c.in-Cyclic.is (c.in_ok-ranks.ensures (numbered p) (literals_of p, sym c.requires.numbered)) in
    omega (arith, found.0, c.len.ensures)

pub returns-in-Ranked-clause-good : goal.returns-in-Ranked-clause-good
returns-in-Ranked-clause-good c =
    let p = parts c.args.from.now in
    let found = subst (IsSortOrder (numbered p) c.len.result) c.in-Ranked.is (c.in_ok-ranks.ensures (numbered p) (literals_of p, sym c.requires.numbered)) in
    (c.requires.brackets, ranked_not_cyclic (numbered p) (rank_at c.in-Ranked.ranks.items) found.0)

pub returns-in-Ranked-clause-ranking : goal.returns-in-Ranked-clause-ranking
returns-in-Ranked-clause-ranking c =
    let p = parts c.args.from.now in
    subst (IsSortOrder (numbered p) c.len.result) c.in-Ranked.is (c.in_ok-ranks.ensures (numbered p) (literals_of p, sym c.requires.numbered))

pub returns-in_ok-copy-in-Cyclic-clause-refused : goal.returns-in_ok-copy-in-Cyclic-clause-refused
returns-in_ok-copy-in-Cyclic-clause-refused c =
    let p = parts c.args.from.now in
    let found = subst (IsSortOrder (numbered p) c.len.result) c.in-Cyclic.is (c.in_ok-ranks.ensures (numbered p) (literals_of p, sym c.requires.numbered)) in
    let s = c.index-line.result.now in
    let ss = c.args.from.now.sorts.items in
    let lt : c.in-Cyclic.sort < length ss = omega (arith, found.0, c.len.ensures) in
    let at = slice_get_read ss (length ss) c.in-Cyclic.sort s refl lt c.index-line.ensures in
    (c.requires.brackets, (c.in-Cyclic.sort, name_at ss c.in-Cyclic.sort s at ∙ ap Some (sym c.in_ok-copy-in-Cyclic.ensures), found.1, found.2))
