use Rattle.std.proofs.Common.{◌≡◌, ◌+◌, ◌-◌, ◌≤◌, Some, refl, sym, subst, ap, ◌∙◌, length, get_or, arith}
use Rattle.std.specs.List.{slice_get}
use Rattle.std.proofs.lemmas.Option.{slice_get-get_or}
use Rattle.sx_earley.specs.Shown.{plain}
use Rattle.sx_grammar.specs.Tally.{plus}
use Rattle.sx_forest.specs.Tallies.{tally_of, ways_of}
use Rattle.sx_forest.specs.Rows.{SumTo}
use Rattle.sx_forest.proofs.RowWays.{none_after}
use Rattle.sx_forest.proofs.Summing.{no_entry, sum_on, sum_again, nothing_more, skip_to}
use Rattle.sx_forest.proofs.part_ways.later_ways.Goals as goal

pub loop-left-init : goal.loop-left-init
loop-left-init c = let left = c.index_at-left.ensures in let entries = c.args.entries.now in record {
  low = left.low;
  high = left.high;
  on = λ t sum. subst (λ u. SumTo (plain c.args.grammar.now) c.args.sort c.args.least (ways_of c.args.next.now) entries (length entries) u) (sym (nothing_more t))
      (skip_to (plain c.args.grammar.now) c.args.sort c.args.least (ways_of c.args.next.now) entries c.index_at-left.result t sum (length entries) left.high (omega arith)
      (λ i e after under at. none_after c.args.next.now e.to (left.after i e after at)));
}

pub loop-left-preserved : goal.loop-left-preserved
loop-left-preserved c =
    let g = plain c.args.grammar.now in let entries = c.args.entries.now in let next = ways_of c.args.next.now in
    let low = c.loop-left.invariant.low in let high = c.loop-left.invariant.high in
    let n = c.loop-left.left - 1 in let u = tally_of c.entry_ways-here.result in
    let all = tally_of c.loop-left.all in
    let same : n + 1 ≡ c.loop-left.left = omega arith in
    record {
      low = omega arith;
      high = omega arith;
      on = λ t sum.
          let more : SumTo g c.args.sort c.args.least next entries c.loop-left.left (plus t u) =
          subst (λ k. SumTo g c.args.sort c.args.least next entries k (plus t u)) same
          (sum_on g c.args.sort c.args.least next entries n t u (plus t u) (omega arith) sum c.entry_ways-here.ensures refl) in
          subst (λ v. SumTo g c.args.sort c.args.least next entries (length entries) v) (sum_again t u all ∙ ap (plus t) (sym c.either-all.ensures))
          (c.loop-left.invariant.on (plus t u) more);
    }

pub returns-then-is_ahead : goal.returns-then-is_ahead
returns-then-is_ahead c = λ t sum.
    let g = plain c.args.grammar.now in let entries = c.args.entries.now in let next = ways_of c.args.next.now in
    let low = c.loop-left.invariant.low in let high = c.loop-left.invariant.high in
    let n = c.loop-left.left - 1 in let x = get_or entries n no_entry in
    let there : slice_get entries n ≡ Some x = slice_get-get_or entries n no_entry (omega arith) in
    c.loop-left.invariant.on t (skip_to g c.args.sort c.args.least next entries 1 t sum c.loop-left.left low high
    (λ i e after under at.
    let up : e.to ≤ x.to = c.requires.sorted i n e x (omega arith) (omega arith) at there in
    c.is_ahead.ensures c.if-is_ahead.true e.to up))

pub returns : goal.returns
returns c = λ t sum.
    let low = c.loop-left.invariant.low in
    let one : 1 ≡ c.loop-left.left = omega arith in
    c.loop-left.invariant.on t (subst (λ k. SumTo (plain c.args.grammar.now) c.args.sort c.args.least (ways_of c.args.next.now) c.args.entries.now k t) one sum)
