use Rattle.std.proofs.Common.{List, map, sym, subst}
use Rattle.std.proofs.lemmas.List.{drop_all}
use Rattle.sx_term.specs.declared.term.Term.{Term}
use Rattle.sx_term.specs.Term.{tree}
use Rattle.sx_expand.specs.Readings.{AllSmall}
use Rattle.sx_unit.proofs.GoalTerms.{shallow_at, one_smaller}
use Rattle.sx_unit.proofs.base_writing.are_small.Goals as goal

pub size-requires : goal.size-requires
size-requires c = shallow_at c.args.terms.now c.loop-term.term-index c.term-item.result
    c.loop-term-test.true c.term-item.is c.requires

pub loop-term-preserved : goal.loop-term-preserved
loop-term-preserved c = λ rest.
    c.loop-term.invariant (one_smaller c.args.terms.now c.loop-term.term-index c.term-item.result
    c.size.result c.loop-term-test.true c.term-item.is c.requires c.size.ensures
    c.if-size-gt-MOST_SIZE.false rest)

pub returns : goal.returns
returns c = λ is.
    let none = drop_all c.loop-term.term-index c.args.terms.now c.loop-term-test.false in
    c.loop-term.invariant (subst (λ (ts : List Term). AllSmall (map tree ts)) (sym none) tt)
