use Rattle.sx_term.specs.Term.{tree}
use Rattle.sx_plain.specs.Views.{table_of}
use Rattle.sx_rewrite.specs.Rewriting.{first_over}
use Rattle.sx_rewrite.proofs.PlainGood.{held-at}
use Rattle.sx_extcheck.specs.FlatTerms.{CanMeasure}
use Rattle.sx_extcheck.proofs.Measuring.{told, images_from, images-tell, images-pass}
use Rattle.sx_extcheck.proofs.flat_terms.measure_terms.Goals as goal

pub measure_term-requires : goal.measure_term-requires
measure_term-requires c = held-at (CanMeasure (table_of c.args.plain.now)) tree c.args.terms.now c.loop-term.term-index c.term-item.result c.requires c.loop-term-test.true c.term-item.is

pub returns-in_err-measure_term : goal.returns-in_err-measure_term
returns-in_err-measure_term c =
    told (first_over (images_from (table_of c.args.plain.now) c.args.terms.now)) c.from_residual.result _ c.from_residual.ensures.1
    (images-tell (table_of c.args.plain.now) c.args.terms.now c.loop-term.term-index c.term-item.result c.loop-term.invariant c.loop-term-test.true c.term-item.is _ c.in_err-measure_term.ensures)

pub loop-term-preserved : goal.loop-term-preserved
loop-term-preserved c =
    images-pass (table_of c.args.plain.now) c.args.terms.now c.loop-term.term-index c.term-item.result c.loop-term.invariant c.loop-term-test.true c.term-item.is c.in_ok-measure_term.ensures.0
