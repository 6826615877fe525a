use Rattle.std.proofs.Common.{refl, arith}
use Rattle.std.specs.Prelude.{flat_map}
use Rattle.sx_grammar.specs.declared.sort_line.SortLine.{SortLine}
use Rattle.sx_grammar.specs.Parts.{bracket_literals}
use Rattle.sx_grammar.proofs.LoopLaws.{added_more, added_all}
use Rattle.sx_grammar.proofs.standing.add_brackets_of.Goals as goal

pub loop-sort-preserved : goal.loop-sort-preserved
loop-sort-preserved c =
    added_more (flat_map (λ (s : SortLine). bracket_literals s.brackets)) _ _ _ (bracket_literals c.sort-item.result.brackets) c.args.sorts.now c.loop-sort.sort-index c.sort-item.result
    c.loop-sort.invariant c.in_ok-add_brackets.ensures refl c.loop-sort-test.true c.sort-item.is

pub returns : goal.returns
returns c =
    added_all (flat_map (λ (s : SortLine). bracket_literals s.brackets)) _ _ c.args.sorts.now c.loop-sort.sort-index c.loop-sort.invariant refl (omega (arith, c.loop-sort-test.false))
