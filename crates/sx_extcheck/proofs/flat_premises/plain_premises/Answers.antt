use Rattle.sx_rules.specs.Views.{premise, hypotheses}
use Rattle.sx_plain.specs.Views.{table_of}
use Rattle.sx_rewrite.specs.PlainRules.{PremiseHasImage}
use Rattle.sx_rewrite.proofs.PlainGood.{held-at}
use Rattle.sx_extcheck.proofs.Given.{given-step, given-end}
use Rattle.sx_extcheck.proofs.flat_premises.plain_premises.Goals as goal

pub add_premise-requires : goal.add_premise-requires
add_premise-requires c = held-at (PremiseHasImage (table_of c.args.plain.now)) premise c.args.premises.now c.loop-premise.premise-index c.premise-item.result c.requires c.loop-premise-test.true c.premise-item.is

pub loop-premise-preserved : goal.loop-premise-preserved
loop-premise-preserved c =
    given-step (table_of c.args.plain.now) c.args.premises.now c.loop-premise.premise-index c.premise-item.result (hypotheses c.loop-premise.given) (hypotheses c.add_premise.new.given)
    c.loop-premise-test.true c.premise-item.is c.loop-premise.invariant c.in_ok-add_premise.ensures

pub returns : goal.returns
returns c = given-end (table_of c.args.plain.now) c.args.premises.now c.loop-premise.premise-index (hypotheses c.loop-premise.given) c.loop-premise-test.false c.loop-premise.invariant
