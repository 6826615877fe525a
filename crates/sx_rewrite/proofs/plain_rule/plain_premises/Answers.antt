use Rattle.sx_rules.specs.Views.{premise}
use Rattle.sx_plain.specs.Views.{table_of}
use Rattle.sx_rewrite.specs.PlainRules.{PremiseHasImage}
use Rattle.sx_rewrite.proofs.PlainGood.{held-at}
use Rattle.sx_rewrite.proofs.plain_rule.plain_premises.Goals as goal

pub plain_premise-requires : goal.plain_premise-requires
plain_premise-requires c = held-at (PremiseHasImage (table_of c.args.table.now)) premise c.args.premises.now c.loop-premise.premise-index c.premise-item.result c.requires c.loop-premise-test.true c.premise-item.is
