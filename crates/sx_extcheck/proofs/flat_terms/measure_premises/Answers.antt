use Rattle.sx_rules.specs.Views.{premise}
use Rattle.sx_plain.specs.Views.{table_of}
use Rattle.sx_rewrite.specs.Rewriting.{first_over}
use Rattle.sx_rewrite.proofs.PlainGood.{held-at}
use Rattle.sx_extcheck.specs.FlatTerms.{PremiseCanMeasure}
use Rattle.sx_extcheck.proofs.Measuring.{told, premises_from, premises-tell, premises-pass}
use Rattle.sx_extcheck.proofs.flat_terms.measure_premises.Goals as goal

pub measure_premise-requires : goal.measure_premise-requires
measure_premise-requires c = held-at (PremiseCanMeasure (table_of c.args.plain.now)) premise c.args.premises.now c.loop-premise.premise-index c.premise-item.result c.requires c.loop-premise-test.true c.premise-item.is

pub returns-in_err-measure_premise : goal.returns-in_err-measure_premise
returns-in_err-measure_premise c =
    told (first_over (premises_from (table_of c.args.plain.now) c.args.premises.now)) c.from_residual.result _ c.from_residual.ensures.1
    (premises-tell (table_of c.args.plain.now) c.args.premises.now c.loop-premise.premise-index c.premise-item.result c.loop-premise.invariant c.loop-premise-test.true c.premise-item.is _ c.in_err-measure_premise.ensures)

pub loop-premise-preserved : goal.loop-premise-preserved
loop-premise-preserved c =
    premises-pass (table_of c.args.plain.now) c.args.premises.now c.loop-premise.premise-index c.premise-item.result c.loop-premise.invariant c.loop-premise-test.true c.premise-item.is c.in_ok-measure_premise.ensures.0
