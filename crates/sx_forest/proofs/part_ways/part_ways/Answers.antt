use Rattle.std.proofs.Common.{◌≡◌, ◌<◌, refl, sym, subst, length, arith}
use Rattle.std.proofs.lemmas.Bool.Decides.{nat_tests}
use Rattle.sx_earley.specs.Shown.{plain}
use Rattle.sx_grammar.specs.Tally.{no_way}
use Rattle.sx_forest.specs.Tallies.{tally_of, ways_of}
use Rattle.sx_forest.specs.Rows.{SumTo, sum_none}
use Rattle.sx_forest.proofs.Summing.{sum_on}
use Rattle.sx_forest.proofs.part_ways.part_ways.Goals as goal

pub returns-then-is_empty : goal.returns-then-is_empty
returns-then-is_empty c =
    let entries = c.args.entries.now in
    let none : 0 ≡ length entries = grind (arith, nat_tests, c.is_empty.ensures, c.if-is_empty.true) in
    subst (λ n. SumTo (plain c.args.grammar.now) c.args.sort c.args.least (ways_of c.args.next.now) entries n no_way) none sum_none

pub returns : goal.returns
returns c =
    let entries = c.args.entries.now in let g = plain c.args.grammar.now in let next = ways_of c.args.next.now in
    let t = tally_of c.entry_ways-first.result in
    let some : 0 < length entries = grind (arith, nat_tests, c.is_empty.ensures, c.if-is_empty.false) in
    subst (λ u. SumTo g c.args.sort c.args.least next entries (length entries) u) (sym c.either.ensures)
    (c.later_ways-others.ensures t (sum_on g c.args.sort c.args.least next entries 0 no_way t t some sum_none c.entry_ways-first.ensures refl))
